use Rattle.std.proofs.Common.{◌≡◌, ◌+◌, ◌*◌, ◌≤◌, ◌++◌, take, vec_len, vec_capacity}
use Rattle.std.specs.List.{flat_map}
use Rattle.nt_script.specs.declared.transcript.TheConstants.{MOST_BYTES}
use Rattle.nt_script.specs.Transcript.{output_line, answer_text, grant_text}
use Rattle.nt_script.proofs.transcript.put_turn.Given as goal

abbrev pub invariant-loop-grant : goal.invariant-loop-grant
invariant-loop-grant l = record {
  items : l.out.items ≡ l.fn.out.items ++ output_line l.line (answer_text l.answer) ++ flat_map (λ grant. output_line l.line (grant_text grant)) (take l.grant-index l.grants);
  len : vec_len l.out ≤ vec_len l.fn.out + (1 + l.grant-index) * MOST_BYTES;
  room : vec_capacity l.fn.out ≤ vec_capacity l.out;
}
