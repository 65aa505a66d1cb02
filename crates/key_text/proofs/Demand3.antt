-- Demand 3, of the key's text: "a delivery is called impossible by "cannot" and possible by "can", in Solve's answer and in
-- the key's text alike". For bytes that no check refuses, "cannot" is printed exactly when no whole-number settings carry
-- the delivery, and "can" otherwise; bytes that a check refuses have "refused" and its number. Everything here follows from
-- `Key`, and so from the contracts of `key_text` and `write_key`. Settings are any function from edges to whole numbers.
use mathlib.Core.Path.{◌≡◌, sym, ap, ◌∙◌}
use mathlib.Core.Logic.{◌⊎◌, inl, inr}
use mathlib.Core.List.{List, ◌++◌}
use Prim.Native.Nat.{ℕ}
use native.Mathlib.Omega.{arith}
use lib.ListN.{get_or, replicate, length-replicate}
use lib.IntN.{ℤ, pos}
use Rattle.refusals.specs.Order.{NoneOf, FirstOf}
use Rattle.refusals.proofs.Order.{first_none, first_one}
use Rattle.flows.specs.Highest.{Highest}
use Rattle.flows.specs.ProvingSet.{Proves, SetOf, member, size}
use Rattle.records.specs.Sheet.{nodes_of, edges_of, capacity_of, sheet_map, outer_of}
use Rattle.analyser.specs.Solve.{solve_checks}
use Rattle.analyser.proofs.Accepted.{Accepted, accepted}
use Rattle.analyser.proofs.Asked.{one_highest}
use Rattle.analyser.specs.Statements.{Delivers}
use Rattle.analyser.specs.Drops.{NotEvenInDrops}
use Rattle.analyser.proofs.Demand3.{set_excludes}
use Rattle.analyser.proofs.Drops.{set_in_drops}
use Rattle.texts.proofs.Joined.{lines_agree}
use Rattle.key_text.specs.Question.{source_of, sink_of, value_of, sheet_of, key_checks}
use Rattle.key_text.specs.Text.{can_word, cannot_word, refused_word, edge_line, can_line, can_text, cannot_line, cannot_text, refused_text}
use Rattle.key_text.specs.Key.{Key, can, cannot, refused}
use Rattle.key_text.specs.Statements.{Says}
use Rattle.key_text.proofs.Answering.{key_solve}

-- ── the text's first word ──
pub says_can : (value : ℤ) (edges : ℕ) (x : ℕ → ℤ) (t : List ℕ) → t ≡ can_text value edges x → Says can_word t
unfolding can_text can_line
says_can value edges x t e = (_, e)

says_cannot : (value : ℤ) (n nodes : ℕ) (words t : List ℕ) → t ≡ cannot_text value n nodes words → Says cannot_word t
unfolding cannot_text cannot_line
says_cannot value n nodes words t e = (_, e)

pub says_refused : (k : ℕ) (t : List ℕ) → t ≡ refused_text k → Says refused_word t
unfolding refused_text
says_refused k t e = (_, e)

-- no text says two of them: "can " and "cannot " part at the fourth byte, "refused " at the first
can_cannot : (t : List ℕ) → Says can_word t → Says cannot_word t → ⊥
can_cannot t a b = omega (arith, ap (λ l. get_or l 3 0) (sym a.1 ∙ b.1))

can_refused : (t : List ℕ) → Says can_word t → Says refused_word t → ⊥
can_refused t a b = omega (arith, ap (λ l. get_or l 0 0) (sym a.1 ∙ b.1))

cannot_refused : (t : List ℕ) → Says cannot_word t → Says refused_word t → ⊥
cannot_refused t a b = omega (arith, ap (λ l. get_or l 0 0) (sym a.1 ∙ b.1))

-- ── refused: exactly when a check holds, and the first gives the number ──
pub refused_exactly : (b t : List ℕ) → Key b t
    → (Says refused_word t → (k p : ℕ) × FirstOf (key_checks b) k p × (t ≡ refused_text k)) × ((k p : ℕ) → FirstOf (key_checks b) k p → t ≡ refused_text k)
refused_exactly b t (can none x h e) = ((λ r. absurd (can_refused t (says_can _ _ _ t e) r)), (λ k p f. absurd (first_none (key_checks b) k p f none)))
refused_exactly b t (cannot none words s h e) =
    ((λ r. absurd (cannot_refused t (says_cannot _ _ _ _ t e) r)), (λ k p f. absurd (first_none (key_checks b) k p f none)))
refused_exactly b t (refused k p f e) = ((λ r. (k, p, f, e)), (λ j q g. e ∙ ap refused_text (first_one (key_checks b) k p j q f g).0))

module _ (b : List ℕ) (asked : NoneOf (key_checks b)) where
  abbrev s : List ℕ
  s = sheet_of b

  -- the settings x carry the delivery that the question asks, on its sheet
  abbrev Carried : (ℕ → ℤ) → Type 0
  Carried x = Delivers s (source_of b) (sink_of b) (value_of b) x

  abbrev no_flows : List ℤ
  no_flows = replicate 512 (pos 0)

  abbrev no_set : List ℕ
  no_set = replicate 9 0

  question_asked : NoneOf (solve_checks s (source_of b) (sink_of b) (value_of b) no_flows no_set)
  question_asked = key_solve b no_flows no_set (omega (arith, length-replicate 512 (pos 0))) (omega (arith, length-replicate {A = ℕ} 9 0)) asked

  excluded : (words : List ℕ) → Proves (sheet_map s) (capacity_of s) (source_of b) (sink_of b) (value_of b) (member words) → (x : ℕ → ℤ) → Carried x → ⊥
  excluded = set_excludes s (source_of b) (sink_of b) (value_of b) no_flows no_set question_asked

  known : Accepted s (source_of b) (sink_of b) (value_of b) no_flows no_set
  known = accepted s (source_of b) (sink_of b) (value_of b) no_flows no_set question_asked

  -- ── an accepted question is answered ──
  pub never_refused : (t : List ℕ) → Key b t → Says refused_word t → ⊥
  never_refused t key r = let f = (refused_exactly b t key).0 r in first_none (key_checks b) f.0 f.1 f.2 asked

  pub can_or_cannot : (t : List ℕ) → Key b t → Says can_word t ⊎ Says cannot_word t
  can_or_cannot t (can none x h e) = inl (says_can _ _ _ t e)
  can_or_cannot t (cannot none words k p e) = inr (says_cannot _ _ _ _ t e)
  can_or_cannot t (refused k p f e) = absurd (first_none (key_checks b) k p f asked)

  -- ── "can" exactly when some settings carry the delivery ──
  pub can_exactly : (t : List ℕ) → Key b t → (Says can_word t → (x : ℕ → ℤ) × Carried x) × ((x : ℕ → ℤ) → Carried x → Says can_word t)
  can_exactly t (can none x h e) = ((λ c. (x, h.carries)), (λ y d. says_can _ _ _ t e))
  can_exactly t (cannot none words k p e) = ((λ c. absurd (can_cannot t c (says_cannot _ _ _ _ t e))), (λ y d. absurd (excluded words p y d)))
  can_exactly t (refused k p f e) = absurd (first_none (key_checks b) k p f asked)

  -- ── "cannot" exactly when none do ──
  pub cannot_exactly : (t : List ℕ) → Key b t → (Says cannot_word t → (x : ℕ → ℤ) → Carried x → ⊥) × (((x : ℕ → ℤ) → Carried x → ⊥) → Says cannot_word t)
  cannot_exactly t (can none x h e) = ((λ c. absurd (can_cannot t (says_can _ _ _ t e) c)), (λ no. absurd (no x h.carries)))
  cannot_exactly t (cannot none words k p e) = ((λ c. excluded words p), (λ no. says_cannot _ _ _ _ t e))
  cannot_exactly t (refused k p f e) = absurd (first_none (key_checks b) k p f asked)

  -- ── and where it says "cannot", none do in n-th parts either (document 02, Job 13) ──
  pub cannot_in_drops : (t : List ℕ) → Key b t → Says cannot_word t → NotEvenInDrops s (source_of b) (sink_of b) (value_of b)
  cannot_in_drops t (can none x h e) c = absurd (can_cannot t (says_can _ _ _ t e) c)
  cannot_in_drops t (cannot none words k p e) c =
      set_in_drops s known.sheet (source_of b) (sink_of b) known.ends_two (capacity_of s) (value_of b) (member words) p
  cannot_in_drops t (refused k p f e) c = absurd (first_none (key_checks b) k p f asked)

  -- ── what stands under "can": each edge with its flow in the highest answer, of which there is one ──
  pub can_prints : (t : List ℕ) → Key b t → Says can_word t
      → (x : ℕ → ℤ) × Highest (sheet_map s) (outer_of s) (capacity_of s) (source_of b) (sink_of b) (value_of b) x × (t ≡ can_text (value_of b) (edges_of s) x)
  can_prints t (can none x h e) c = (x, h, e)
  can_prints t (cannot none words k p e) c = absurd (can_cannot t c (says_cannot _ _ _ _ t e))
  can_prints t (refused k p f e) c = absurd (first_none (key_checks b) k p f asked)

  pub can_one : (t u : List ℕ) → Key b t → Key b u → Says can_word t → t ≡ u
  unfolding can_text
  can_one t u key other c =
      let x = can_prints t key c in
      let carried = (can_exactly t key).0 c in
      let y = can_prints u other ((can_exactly u other).1 carried.0 carried.1) in
      x.2
      ∙ ap (λ l. can_line (value_of b) ++ l)
      (lines_agree (edges_of s) (λ e. edge_line e (x.0 e)) (λ e. edge_line e (y.0 e))
      (λ e l. ap (edge_line e) (one_highest s known.sheet (source_of b) (sink_of b) known.ends_two (value_of b) x.0 y.0 x.1 y.1 e l)))
      ∙ sym y.2

  -- ── what stands under "cannot": the nodes of a set that proves it, and its size ──
  pub cannot_prints : (t : List ℕ) → Key b t → Says cannot_word t
      → (words : List ℕ) × SetOf (nodes_of s) words × Proves (sheet_map s) (capacity_of s) (source_of b) (sink_of b) (value_of b) (member words)
      × (t ≡ cannot_text (value_of b) (size words) (nodes_of s) words)
  cannot_prints t (can none x h e) c = absurd (can_cannot t (says_can _ _ _ t e) c)
  cannot_prints t (cannot none words k p e) c = (words, k, p, e)
  cannot_prints t (refused k p f e) c = absurd (first_none (key_checks b) k p f asked)
