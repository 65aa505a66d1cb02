-- Largest on the limits found: the limits taken, the checks that stand last, the limits written, then the question on the drawing that has them.
use mathlib.Core.Path.{refl, sym, subst, fun_ext}
use Prim.Native.Nat.{ℕ, ◌*◌, ◌<◌}
use Rattle.std.proofs.lemmas.Result.{err_from_is_err_and}
use Rattle.integers.specs.inner.Limited.{Limited}
use Rattle.arrays.specs.At.{at, atℤ}
use Rattle.arrays.specs.Maps.{map_of, drawing_of}
use Rattle.arrays.specs.inner.Drawn.{Drawn}
use Rattle.arrays.specs.inner.Sizes.{most_on_sheet}
use Rattle.balance.proofs.Parts.{part_filled}
use Rattle.capture.proofs.Lasting.{last_search}
use Rattle.capture.proofs.Finding.{found_limited, found_drawn, taking_refused, last_refused, largest_given}
use Rattle.capture.proofs.Lending.{flows_in, words_in, largest_back}
use Rattle.capture.proofs.largest_after.Goals as goal

pub returns-in_err-take_limits : goal.returns-in_err-take_limits
returns-in_err-take_limits c =
    let p = err_from_is_err_and c.from_residual.result c.from_residual.ensures.1 in
    let a = c.args in
    let 𝓓 = drawing_of a.sizes.nodes a.sizes.edges a.sizes.outer a.tails.now a.rotations.now a.capacities.now in
    let taken = rw c.from.ensures at c.in_err-take_limits.ensures.1 in
    rw (p.1, p.2) (
      refl,
      (
        taking_refused 𝓓 a.capture.now a.after.window a.after.named a.after.source a.after.sink a.limits.now a.flows.now a.set.now _ _ taken,
        refl,
        refl,
      ),
    )

pub returns-in_err-check_last : goal.returns-in_err-check_last
returns-in_err-check_last c =
    let p = err_from_is_err_and c.from_residual-in_err-check_last.result c.from_residual-in_err-check_last.ensures.1 in
    let a = c.args in
    let 𝓓 = drawing_of a.sizes.nodes a.sizes.edges a.sizes.outer a.tails.now a.rotations.now a.capacities.now in
    let taken = rw c.from.ensures at c.in_ok-take_limits.ensures.1 in
    rw (p.1, p.2) (
      refl,
      (
        last_refused 𝓓 a.capture.now a.after.window a.after.named a.after.source a.after.sink a.limits.now a.flows.now a.set.now taken.0 _ _
            c.in_err-check_last.ensures,
        refl,
        refl,
      ),
    )

-- the checks of Largest have passed, and there is room for the limits
pub slice_bounds-write_limits-end : goal.slice_bounds-write_limits-end
slice_bounds-write_limits-end c =
    let a = c.args in
    (last_search a.sizes.nodes a.sizes.edges a.after.source a.after.sink a.limits.now a.flows.now a.set.now c.in_ok-check_last.ensures).1

-- ── Largest on them ──
pub slice_bounds-largest-end : goal.slice_bounds-largest-end
slice_bounds-largest-end c =
    let a = c.args in
    let 𝓓 = drawing_of a.sizes.nodes a.sizes.edges a.sizes.outer a.tails.now a.rotations.now c.take_limits.new.capacities in
    let roomy = last_search a.sizes.nodes a.sizes.edges a.after.source a.after.sink a.limits.now a.flows.now a.set.now c.in_ok-check_last.ensures in
    flows_in 𝓓 a.after.source a.after.sink a.flows.now a.set.now roomy.0

pub slice_bounds-largest-end-2 : goal.slice_bounds-largest-end-2
slice_bounds-largest-end-2 c =
    let a = c.args in
    let 𝓓 = drawing_of a.sizes.nodes a.sizes.edges a.sizes.outer a.tails.now a.rotations.now c.take_limits.new.capacities in
    let roomy = last_search a.sizes.nodes a.sizes.edges a.after.source a.after.sink a.limits.now a.flows.now a.set.now c.in_ok-check_last.ensures in
    let words = words_in 𝓓 a.after.source a.after.sink a.flows.now a.set.now roomy.0 in
    rw c.words_for-words.ensures words

pub largest-requires : goal.largest-requires
largest-requires c =
    let a = c.args in
    let 𝓜 = map_of a.sizes.nodes a.sizes.edges a.tails.now a.rotations.now in
    let taken = rw c.from.ensures at c.in_ok-take_limits.ensures.1 in
    let are = sym (fun_ext taken.1) in
    record {
      opened = record {
        drawn = subst (Drawn 𝓜 (at a.lefts.now) a.sizes.faces a.sizes.outer) are
            (found_drawn 𝓜 (atℤ a.capacities.now) a.capture.now a.after.window a.after.named taken.0
            (at a.lefts.now) a.sizes.faces a.sizes.outer c.requires.1.drawn);
        walked = c.requires.1.walked;
      };
      small = subst (λ f. (d : ℕ) → d < 2 * a.sizes.edges → Limited most_on_sheet (f d)) are
          (found_limited 𝓜 (atℤ a.capacities.now) a.capture.now a.after.window a.after.named taken.0);
    }

pub returns : goal.returns
returns c =
    let a = c.args in
    let c' = c.take_limits.new.capacities in
    let 𝓓 = drawing_of a.sizes.nodes a.sizes.edges a.sizes.outer a.tails.now a.rotations.now a.capacities.now in
    let 𝓔 = drawing_of a.sizes.nodes a.sizes.edges a.sizes.outer a.tails.now a.rotations.now c' in
    let taken = rw c.from.ensures at c.in_ok-take_limits.ensures.1 in
    let last = c.in_ok-check_last.ensures in
    let roomy = last_search a.sizes.nodes a.sizes.edges a.after.source a.after.sink a.limits.now a.flows.now a.set.now last in
    largest_given 𝓓 a.capture.now a.after.window a.after.named a.after.source a.after.sink a.limits.now a.flows.now a.set.now taken.0 (atℤ c') taken.1 last
    _ _ _ c.largest.result (part_filled a.sizes.edges a.limits.now _ _ c.write_limits.ensures)
    (largest_back 𝓔 a.after.source a.after.sink a.flows.now a.set.now roomy.0 c.words_for-words.result c.words_for-words.ensures
    _ _ c.largest.result c.largest.ensures)
