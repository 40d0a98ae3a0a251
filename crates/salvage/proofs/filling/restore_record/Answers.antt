-- `salvage::filling::restore_record` meets its promise. Assumes nothing.
use Rattle.readers.specs.FaultLaws.{handed-on}
use Rattle.salvage.proofs.filling.restore_record.Goals as goal

pub returns-in_err-restore_star : goal.returns-in_err-restore_star
returns-in_err-restore_star c = rw (handed-on c.from_residual.ensures.1) c.in_err-restore_star.ensures.is

pub returns : goal.returns
returns c = c.in_ok-restore_star.ensures.is
