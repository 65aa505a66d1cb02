-- The proving set of an answer is the one that the search names. Document 02, Job 1: "is the one Solve gives alone"; Job 12: what a party is answered follows
-- from what it sees. Nobody need believe what `Named` says: it is a relation of which all that is used is that it has one end (`proofs/OneAnswer.antt`).
use Rattle.std.specs.Prelude.{◌≡◌, Bool, List, ℕ, ◌<◌, take, ℤ, Result, Ok, Err}
use Rattle.refusals.specs.declared.Refusal.{Refusal}
use Rattle.maps.specs.Drawing.{Drawing}
use Rattle.flows.specs.ProvingSet.{words_for, member}
use Rattle.solver.specs.inner.Named.{no_parents, Named}
use Rattle.questions.specs.declared.Solution.{Solution}
use Rattle.questions.specs.declared.Solution.TheVariants.{Can, Cannot}

-- the words hold the nodes that the search names for the value from source to sink
pub record NamedSet (𝓓 : Drawing) (source sink : ℕ) (value : ℤ) (words : List ℕ) : Type 0 where
  pub inside : ℕ → Bool
  pub named : Named 𝓓.map 𝓓.outer 𝓓.capacity source sink value no_parents inside
  pub holds : (v : ℕ) → v < 𝓓.map.nodes → member words v ≡ inside v

-- where the answer is "cannot", the words in front of the slice
abbrev pub SetNamed : Drawing → (source sink : ℕ) → ℤ → (set' : List ℕ) → Result Solution Refusal → Type 0
SetNamed 𝓓 source sink value set' (Ok Can) = Unit
SetNamed 𝓓 source sink value set' (Ok (Cannot n)) = NamedSet 𝓓 source sink value (take (words_for 𝓓.map.nodes) set')
SetNamed 𝓓 source sink value set' (Err r) = Unit
