-- A question has one answer: two runs that are lent the same leave the same, the words and the size of a proving set included.
use mathlib.Core.Path.{◌≡◌, refl, sym, ◌∙◌, ap, ap₂}
use mathlib.Core.Logic.{◌≢◌}
use mathlib.Core.List.{List, ◌++◌}
use Prim.Native.Nat.{ℕ, ◌<◌}
use lib.ListN.{take, drop}
use lib.Seq.{take-append_seam}
use lib.IntN.{ℤ}
use Rattle.std.specs.Prelude.{Result, Ok, Err}
use Rattle.refusals.specs.Order.{Check, NoneOf}
use Rattle.refusals.specs.Refused.{refused}
use Rattle.refusals.specs.declared.Refusal.{Refusal}
use Rattle.refusals.proofs.Order.{first_none, first_one}
use Rattle.maps.specs.Map.{darts}
use Rattle.maps.specs.Drawing.{Drawing}
use Rattle.flows.specs.ProvingSet.{words_for, size, SetOf}
use Rattle.flows.specs.inner.Plane.{Plane}
use Rattle.flows.proofs.Exact.{proves_excludes}
use Rattle.flows.proofs.HighestFlow.{highest_unique}
use Rattle.arrays.proofs.Tabulate.{tabulate_ext}
use Rattle.node_sets.proofs.SameWords.{same_words}
use Rattle.solver.proofs.OneSet.{named_one}
use Rattle.questions.specs.Question.{SetWritten}
use Rattle.questions.specs.Solve.{Solved}
use Rattle.questions.specs.inner.Named.{NamedSet, SetNamed}
use Rattle.questions.specs.declared.Solution.{Solution}
use Rattle.questions.specs.declared.Solution.TheVariants.{Can, Cannot}

-- the words of a set written are those in front
pub in-front : {nodes : ℕ} {words set set' : List ℕ} → SetWritten nodes words set set' → take (words_for nodes) set' ≡ words
in-front {nodes} {words} {set} w =
    ap₂ (λ n l. take n l) (sym w.is_set.long) w.placed ∙ take-append_seam words (drop (words_for nodes) set)

-- two sets that the search names for one question are written in the same words
pub words_one : {𝓓 : Drawing} {source sink : ℕ} {value : ℤ} (words words' : List ℕ) → SetOf 𝓓.map.nodes words → SetOf 𝓓.map.nodes words'
    → NamedSet 𝓓 source sink value words → NamedSet 𝓓 source sink value words' → words ≡ words'
words_one {𝓓} words words' s t a b =
    same_words 𝓓.map.nodes words words' s t (λ v l. a.holds v l ∙ named_one a.named b.named v l ∙ sym (b.holds v l))

-- ── of two answers "cannot", whatever slices were lent ──
module _ {𝓓 : Drawing} {source sink : ℕ} {value : ℤ} {words words₂ set set' set₂ set₂' : List ℕ}
    (w : SetWritten 𝓓.map.nodes words set set') (w₂ : SetWritten 𝓓.map.nodes words₂ set₂ set₂')
    (a : NamedSet 𝓓 source sink value (take (words_for 𝓓.map.nodes) set')) (b : NamedSet 𝓓 source sink value (take (words_for 𝓓.map.nodes) set₂')) where
  pub written_one : words ≡ words₂
  written_one = words_one words words₂ w.is_set w₂.is_set (rw (in-front w) at a) (rw (in-front w₂) at b)

-- ── of two runs that are lent the same ──
module _ (𝓓 : Drawing) (plane : Plane 𝓓.map) (outer_in : 𝓓.outer < darts 𝓓.map) (checks : List Check) (source sink : ℕ) (value : ℤ)
    (ends : NoneOf checks → (source < 𝓓.map.nodes) × (sink < 𝓓.map.nodes) × (source ≢ sink)) (flows : List ℤ) (set : List ℕ) where
  abbrev One : (flows' flows'' : List ℤ) (set' set'' : List ℕ) (r q : Result Solution Refusal) → Type 0
  One flows' flows'' set' set'' r q = (r ≡ q) × (flows' ≡ flows'') × (set' ≡ set'')

  pub solved_one : (flows' flows'' : List ℤ) (set' set'' : List ℕ) (r q : Result Solution Refusal)
      → Solved 𝓓 checks source sink value flows flows' set set' r → SetNamed 𝓓 source sink value set' r
      → Solved 𝓓 checks source sink value flows flows'' set set'' q → SetNamed 𝓓 source sink value set'' q
      → (r ≡ q) × (flows' ≡ flows'') × (set' ≡ set'')
  solved_one flows' flows'' set' set'' (Ok Can) (Ok Can) h a k b =
      let e = ends h.0 in
      let same = highest_unique plane e.0 e.1 e.2 𝓓.outer outer_in h.1.0 k.1.0 h.1.1 k.1.1 in (
        refl,
        h.1.2 ∙ ap (λ l. l ++ drop 𝓓.map.edges flows) (tabulate_ext 𝓓.map.edges h.1.0 k.1.0 same) ∙ sym k.1.2,
        h.2 ∙ sym k.2,
      )
  solved_one flows' flows'' set' set'' (Ok (Cannot n)) (Ok (Cannot m)) h a k b =
      let words = written_one h.1.1 k.1.1 a b in (
        ap (λ k. Ok (Cannot k)) (h.1.3 ∙ ap size words ∙ sym k.1.3),
        h.2 ∙ sym k.2,
        h.1.1.placed ∙ ap (λ l. l ++ drop (words_for 𝓓.map.nodes) set) words ∙ sym k.1.1.placed,
      )
  solved_one flows' flows'' set' set'' (Err r) (Err t) h a i b =
      let e = first_one checks r.number r.place t.number t.place h.0 i.0 in
      (ap₂ refused e.0 e.1, h.1 ∙ sym i.1, h.2 ∙ sym i.2)
  solved_one flows' flows'' set' set'' (Ok Can) (Ok (Cannot m)) h a k b =
      let e = ends h.0 in
      absurd (proves_excludes plane.sound.range e.0 e.1 e.2 𝓓.capacity value _ k.1.2 h.1.0 h.1.1.carries)
  solved_one flows' flows'' set' set'' (Ok (Cannot n)) (Ok Can) h a k b =
      let e = ends h.0 in
      absurd (proves_excludes plane.sound.range e.0 e.1 e.2 𝓓.capacity value _ h.1.2 k.1.0 k.1.1.carries)
  solved_one flows' flows'' set' set'' (Ok Can) (Err r) h a i b = absurd (first_none checks r.number r.place i.0 h.0)
  solved_one flows' flows'' set' set'' (Ok (Cannot n)) (Err r) h a i b = absurd (first_none checks r.number r.place i.0 h.0)
  solved_one flows' flows'' set' set'' (Err r) (Ok Can) h a i b = absurd (first_none checks r.number r.place h.0 i.0)
  solved_one flows' flows'' set' set'' (Err r) (Ok (Cannot m)) h a i b = absurd (first_none checks r.number r.place h.0 i.0)
