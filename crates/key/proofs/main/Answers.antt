-- The text has room for the key: what was read is itself an input that begins so.
use Prim.Native.Nat.{ℕ, ◌≤◌}
use mathlib.Core.Path.{◌≡◌, sym, ap}
use mathlib.Core.Logic.{inl}
use mathlib.Core.List.{List, ◌++◌}
use native.Mathlib.Omega.{arith}
use lib.ListN.{length, take, drop, length-append}
use lib.Seq.{length-take-le, take-take}
use Rattle.key.proofs.main.Goals as goal

room : (t text text' : List ℕ) (m : ℕ) → length t ≡ m → text' ≡ t ++ drop m text → m ≤ length text'
room t text text' m e h = omega (arith, ap length h, length-append t (drop m text), e)

pub slice_bounds-text-end : goal.slice_bounds-text-end
slice_bounds-text-end c =
    let buffer = c.read_input.new.buffer in
    let n = c.in-Ok.n in
    let within : n ≤ length buffer = c.in-Ok.ensures.filled in
    let p = (c.key_of_input-m.ensures (take n buffer) (take-take n n buffer (omega arith), inl (length-take-le n buffer within))).0 in
    room p.0 _ _ _ p.2 p.4

pub slice_bounds-write_text-end : goal.slice_bounds-write_text-end
slice_bounds-write_text-end c =
    let buffer = c.read_input.new.buffer in
    let n = c.in-Ok.n in
    let within : n ≤ length buffer = c.in-Ok.ensures.filled in
    let p = (c.key_of_input-m.ensures (take n buffer) (take-take n n buffer (omega arith), inl (length-take-le n buffer within))).0 in
    sym (length-take-le c.key_of_input-m.result c.key_of_input-m.new.text (room p.0 _ _ _ p.2 p.4))
