-- The statements of specs/Statements.antt, each by its law: of the text in proofs/Demand3.antt and Unread.antt, of numbers in the crate texts.
use Prim.Native.Nat.{ℕ}
use mathlib.Core.Path.{◌≡◌, ◌∙◌, ap}
use mathlib.Core.List.{List}
use lib.ListN.{drop}
use lib.Seq.{drop_at}
use Rattle.texts.proofs.ReadBack.{decimal_read, no_leading_zero, number_injective}
use Rattle.key_text.specs.Key.{Prints}
use Rattle.key_text.specs.Statements.{KeyText, Numbers}
use Rattle.key_text.proofs.Demand3 as demand
use Rattle.key_text.proofs.Unread.{longest, unread}

rest_kept : (b text text' : List ℕ) (n : ℕ) → Prints b text text' n → drop n text' ≡ drop n text
rest_kept b text text' n h = ap (drop n) h.4 ∙ drop_at h.0 (drop n text) n h.2

pub key_statements : KeyText
key_statements = record {
  refused_exactly = λ b t key.
      let r = demand.refused_exactly b t key in
      ((λ says. let f = r.0 says in (f.0, f.1, f.2)), (λ f. demand.says_refused f.0 t (r.1 f.0 f.1 f.2)));
  refused_number = λ b t key. (demand.refused_exactly b t key).1;
  can_or_cannot = λ b t asked. demand.can_or_cannot b asked t;
  can_exactly = λ b t asked key. let e = demand.can_exactly b asked t key in (e.0, λ p. e.1 p.0 p.1);
  cannot_exactly = λ b t asked. demand.cannot_exactly b asked t;
  cannot_in_drops = λ b t asked. demand.cannot_in_drops b asked t;
  can_prints = λ b t asked. demand.can_prints b asked t;
  can_one = λ b t u asked. demand.can_one b asked t u;
  cannot_prints = λ b t asked. demand.cannot_prints b asked t;
  longest = longest;
  unread = unread;
  rest_kept = rest_kept;
  short_kept = λ b text text' k p h. h.1;
}

pub numbers : Numbers
numbers = record { decimal_read = decimal_read; no_leading_zero = no_leading_zero; number_injective = number_injective }
