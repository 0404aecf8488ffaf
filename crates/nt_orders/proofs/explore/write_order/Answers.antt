use Rattle.std.proofs.Common.{inl}
use Rattle.nt_devices.specs.Device.{Writing}
use Rattle.nt_orders.proofs.explore.write_order.Goals as goal

pub returns-in-Ok : goal.returns-in-Ok
returns-in-Ok g c =
    let writer : Writing = record { held = g.F.File.Write.contents c.new.result.device; failed = c.new.result.failures; flushes = c.new.result.flushes; handed_on = c.new.result.handed_on } in
    let writer' : Writing =
    record { held = g.F.File.Write.contents c.show.new.writer.device; failed = c.show.new.writer.failures; flushes = c.show.new.writer.flushes; handed_on = c.show.new.writer.handed_on } in
    inl (writer, writer', rw c.requires at c.show.ensures)
