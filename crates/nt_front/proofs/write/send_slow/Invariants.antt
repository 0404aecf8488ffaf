use Rattle.std.proofs.Common.{◌≡◌, ◌+◌, ◌-◌, ◌++◌, length, take, drop, map}
use Rattle.std.specs.Prelude.{vec_len, vec_capacity}
use Rattle.nt_front.specs.Runs.{granted, AreArmed}
use Rattle.nt_front.proofs.write.send_slow.Given as goal

abbrev pub invariant-loop-grant : goal.invariant-loop-grant
invariant-loop-grant l = record {
  journal : l.journal.items ≡ l.fn.journal.items ++ map granted (take l.grant-index l.grants);
  dispatcher : l.dispatcher ≡ record { table = l.mail; written = l.fn.dispatcher.written ++ map granted (take l.grant-index l.grants); published = l.fn.dispatcher.published };
  next : l.number ≡ length l.dispatcher.written + 1;
  armed : AreArmed (l.mail.words - 1) l.dispatcher.written (drop l.grant-index l.grants);
  len : vec_len l.journal ≡ vec_len l.fn.journal + l.grant-index;
  number : l.number ≡ l.next + l.grant-index;
  capacity : vec_capacity l.journal ≡ vec_capacity l.fn.journal;
}
