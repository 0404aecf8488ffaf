use Rattle.std.proofs.Common.{◌≡◌, ◌+◌, ◌*◌, ◌≤◌, ◌++◌, take, vec_len, vec_capacity}
use Rattle.nt_written.specs.declared.writing.TheConstants.{NUMBER_BYTES}
use Rattle.nt_written.specs.Writing.{objects_text, AreHandles}
use Rattle.nt_written.proofs.written_words.put_objects.Given as goal

abbrev pub invariant-loop-object : goal.invariant-loop-object
invariant-loop-object l = record {
  items : l.out.items ≡ l.fn.out.items ++ objects_text (take l.object-index l.objects);
  len : vec_len l.out ≤ vec_len l.fn.out + NUMBER_BYTES * l.object-index;
  room : vec_capacity l.fn.out ≤ vec_capacity l.out;
  range : AreHandles (take l.object-index l.objects);
}
