use Rattle.std.proofs.Common.{inl}
use Rattle.nt_devices.specs.Device.{Writing}
use Rattle.nt_drawing.proofs.draw.write_drawing.Goals as goal

pub returns-in-Ok : goal.returns-in-Ok
returns-in-Ok g c =
    let writer : Writing = record { held = g.F.File.Write.contents c.new.result.device; failed = c.new.result.failures; flushes = c.new.result.flushes; handed_on = c.new.result.handed_on } in
    let writer' : Writing =
    record { held = g.F.File.Write.contents c.show_found.new.writer.device; failed = c.show_found.new.writer.failures; flushes = c.show_found.new.writer.flushes; handed_on = c.show_found.new.writer.handed_on } in
    inl (writer, writer', c.show_found.ensures)
