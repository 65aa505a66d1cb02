-- "Work where a level fell", of every search: what is true between looks holds at its beginning, and each step keeps it.
use mathlib.Core.Path.{◌≡◌, ◌∙◌}
use mathlib.Core.List.{List}
use Prim.Native.Nat.{ℕ}
use native.Mathlib.Omega.{arith}
use lib.ListN.{take}
use Rattle.search.specs.Given.{Given, dual}
use Rattle.search.specs.Configuration.{Tables, Configuration, configuration, front}
use Rattle.search.specs.Straightening.{unmarked, Within}
use Rattle.search.specs.Statements.{ComesTo, past, WhereALevelFell}
use Rattle.search.proofs.Beginning.{root_face}
use Rattle.search.proofs.Run.{PassingAt, goes_passing}
use Rattle.search.proofs.Ending.{start_passing}
use Rattle.search.proofs.Between.{Told, Kept, within_at, begun_told, goes_told, once, only_waiting}
use Rattle.search.proofs.Between.{waits_fell, fell_waits, front_waits, kept_place, came_behind}
use Rattle.search.proofs.Determined.{searches_one}

module _ (G : Given) (queue : List ℕ) (roots : ℕ) (c : Configuration) (h : ComesTo G queue roots c) where
  passing : PassingAt (dual G (take roots queue)) c
  passing =
      goes_passing G (take roots queue) h.sound h.in-groups
      (start_passing G queue roots h.size h.few h.sound h.joined h.in-groups h.begun) h.run

  told : Told G.faces c.tables.waiting (past h)
  told =
      goes_told G (take roots queue) h.sound h.in-groups _
      (start_passing G queue roots h.size h.few h.sound h.joined h.in-groups h.begun) h.run
      (begun_told queue roots h.sound.few_faces (root_face G queue roots h.size h.few h.sound) h.begun)

  amid : c.left ≡ 0 → (u : Tables) → Within G.lefts G.lengths G.darts G.faces 0 unmarked c.tables u
      → PassingAt (dual G (take roots queue)) (configuration u c.first 0) × Kept G.faces c.first c.tables u
  amid none u w = within_at G (take roots queue) h.sound h.in-groups c passing none u w

pub where_a_level_fell : WhereALevelFell
where_a_level_fell = record {
  taken_up_fell = λ G queue roots c h l.
      let r = passing G queue roots c h in
      waits_fell G (take roots queue) h.sound h.in-groups c r (told G queue roots c h) (front c)
      (front_waits G (take roots queue) h.sound h.in-groups c r l);
  keeps_place = λ G queue roots c d h p. kept_place G (take roots queue) h.sound h.in-groups c (passing G queue roots c h) p;
  comes_behind = λ G queue roots c d h p. came_behind G (take roots queue) h.sound h.in-groups c (passing G queue roots c h) p;
  waits_once = λ G queue roots c h. once G (take roots queue) h.sound h.in-groups c (passing G queue roots c h);
  lowers_from_waiting = λ G queue roots c h. only_waiting G (take roots queue) h.sound h.in-groups c (passing G queue roots c h);
  waits_exactly = λ G queue roots c h f.
      let r = passing G queue roots c h in
      let t = told G queue roots c h in (
        waits_fell G (take roots queue) h.sound h.in-groups c r t f,
        fell_waits G (take roots queue) h.sound h.in-groups c r t f,
      );
  straightening_once = λ G queue roots c h none u w.
      once G (take roots queue) h.sound h.in-groups _ (amid G queue roots c h none u w).0;
  straightening_lowers = λ G queue roots c h none u w.
      only_waiting G (take roots queue) h.sound h.in-groups _ (amid G queue roots c h none u w).0;
  straightening_keeps = λ G queue roots c h none u w i f l.
      let k = (amid G queue roots c h none u w).1 in (l.0, omega (arith, k.longer, l.1), k.places i l.0 l.1 ∙ l.2);
  one_end = λ G queue roots proposal potentials potentials' parents parents' o o' a b. searches_one a b;
}
