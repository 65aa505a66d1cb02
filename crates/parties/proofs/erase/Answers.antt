-- Every place is written.
use Rattle.parties.proofs.Starting.{after_erase}
use Rattle.parties.proofs.erase.Goals as goal

pub returns : goal.returns
returns c = after_erase
