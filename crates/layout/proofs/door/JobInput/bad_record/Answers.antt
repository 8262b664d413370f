use Rattle.std.proofs.Common.{arith, length, sym}
use Rattle.layout.proofs.Laws.Records.{bad_port_below}
use Rattle.layout.proofs.door.JobInput.bad_record.Goals as goal

pub overflow_add-result-2 : goal.overflow_add-result-2
overflow_add-result-2 c =
    omega (arith, bad_port_below c.args.self.ports.names.now (length c.args.self.ports.points.now) (sym c.in_ok-k.ensures), c.count-to_conducting.ensures, c.record_count.ensures, c.record_count-2.ensures, c.record_count-3.ensures, c)
