-- The slice's front in front of the list is the list gathered.
use mathlib.Core.Path.{◌≡◌, sym}
use native.Mathlib.Omega.{arith}
use borrow.Author.Rules.{rules}
use lib.ListN.{length}
use Rattle.pages.proofs.Listing.{gathered_front}
use Rattle.pages.proofs.gather.Goals as goal

pub returns : goal.returns
returns c =
    let long : length c.args.list.questions ≡ 64 = search rules in
    rw c.copy.ensures (sym (gathered_front c.args.questions.now c.args.list c.args.n c.requires.0 (omega (arith, c.requires.1, long))))
