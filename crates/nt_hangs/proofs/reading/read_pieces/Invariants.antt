use Rattle.std.proofs.Common.{◌≡◌, ◌<◌, length}
use Rattle.std.specs.Io.KnownBytes.{Consumes}
use Rattle.nt_hangs.proofs.reading.read_pieces.Given as goal

abbrev pub invariant-loop-turn : goal.invariant-loop-turn
invariant-loop-turn g l = record {
  taken : Consumes (g.R.Source.seen l.fn.reader).left (g.R.Source.seen l.reader).left l.bytes.items;
  read : (g.R.Source.seen l.reader).failed ≡ (g.R.Source.seen l.fn.reader).failed;
  room : 0 < length l.chunk;
}
