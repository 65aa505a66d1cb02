-- The ways out of `put_text`, and that what it says stands in front lies within.
use mathlib.Core.Path.{◌≡◌, ap}
use mathlib.Core.List.{List}
use Prim.Native.Nat.{ℕ, ◌≤◌}
use native.Mathlib.Omega.{arith}
use lib.ListN.{length, drop, length-append}
use Rattle.refusals.specs.Order.{NoneOf, FirstOf}
use Rattle.refusals.proofs.Order.{none_append, first_left, first_right}
use Rattle.records.specs.Record.{record_checks}
use Rattle.texts.specs.inner.Placed.{Placed}
use Rattle.texts.proofs.Joined.{placed_front}
use Rattle.records.specs.Sheet.{sheet_drawing}
use Rattle.dimacs.specs.Write.{text_of}
use Rattle.std.specs.Prelude.{Ok, Err}
use Rattle.refusals.specs.declared.Refusal.{Refusal}
use Rattle.analyser.specs.Dimacs.{WritesDimacs}
use Rattle.key_text.specs.Question.{source_of, sink_of, sheet_of}
use Rattle.key_text.specs.Text.{refused_text}
use Rattle.to_dimacs.specs.inner.Export.{export_checks, InFront, Exports, written, refused}

told : (k n : ℕ) (text text' : List ℕ) → Placed 0 (refused_text k) text text' n → InFront (refused_text k) text text' n
told k n text text' p = (omega (arith, p.1), placed_front n (refused_text k) text text' p)

module _ (b text : List ℕ) where
  pub question_refused : (text' : List ℕ) (n k p : ℕ) → FirstOf (record_checks b 3 0) k p → Placed 0 (refused_text k) text text' n → Exports b text text' n
  unfolding export_checks
  question_refused text' n k p first placed = refused k p (first_left (record_checks b 3 0) _ k p first) (told k n text text' placed)

  module _ (whole : NoneOf (record_checks b 3 0)) (s : List ℕ) (v w : ℕ) (sheet : s ≡ sheet_of b) (source : v ≡ source_of b) (sink : w ≡ sink_of b) where
    pub text_written : (text' : List ℕ) (n : ℕ) → WritesDimacs s v w text text' (Ok n) → Exports b text text' n
    unfolding export_checks
    text_written text' n h = go (rw (sheet, source, sink) at h)
      where
        go : WritesDimacs (sheet_of b) (source_of b) (sink_of b) text text' (Ok n) → Exports b text text' n
        go g = written (none_append (record_checks b 3 0) _ whole g.0) (g.1, g.2)

    pub text_refused : (mid text' : List ℕ) (n : ℕ) (r : Refusal) → WritesDimacs s v w text mid (Err r)
        → Placed 0 (refused_text r.number) mid text' n → Exports b text text' n
    unfolding export_checks
    text_refused mid text' n r h placed = go (rw (sheet, source, sink) at h)
      where
        go : WritesDimacs (sheet_of b) (source_of b) (sink_of b) text mid (Err r) → Exports b text text' n
        go g =
            refused r.number r.place (first_right (record_checks b 3 0) _ r.number r.place whole g.0) (told r.number n text text' (rw g.1 at placed))

-- ── within ──
front_within : (t text text' : List ℕ) (n : ℕ) → InFront t text text' n → n ≤ length text'
front_within t text text' n p = omega (arith, p.0, ap length p.1, length-append t (drop n text))

pub within : (b text text' : List ℕ) (n : ℕ) → Exports b text text' n → n ≤ length text'
within b text text' n (written none p) = front_within (text_of (sheet_drawing (sheet_of b)) (source_of b) (sink_of b)) text text' n p
within b text text' n (refused k q first p) = front_within (refused_text k) text text' n p
