-- Bytes read of an input: their key is the key of every input that begins with them, and names its set.
use Prim.Native.Nat.{ℕ, ◌≤◌, ◌-◌}
use mathlib.Core.Path.{◌≡◌, sym, ap, subst, ◌∙◌}
use mathlib.Core.Logic.{inl, inr}
use mathlib.Core.List.{List}
use native.Mathlib.Omega.{arith}
use lib.ListN.{length, take, drop, length-take}
use lib.Seq.{take_all, length-take-le}
use Rattle.key_text.specs.Input.{input_room, Begins}
use Rattle.key_text.specs.Key.{Key, Prints}
use Rattle.key_text.specs.inner.Named.{NamedText, KeyNamed}
use Rattle.key_text.proofs.Unread.{unread, longest}

-- an input that ended is the bytes read; one that filled the buffer has their key, by `unread`
begun : (buffer : List ℕ) (n : ℕ) → input_room ≤ length buffer → (whole t : List ℕ) → Begins buffer n whole → Key (take n buffer) t → Key whole t
begun buffer n room whole t (same, inl all) key = subst (λ l. Key l t) (sym same ∙ take_all n whole (omega arith)) key
begun buffer n room whole t (same, inr full) key = (unread n (omega arith) whole t).1 (subst (λ l. Key l t) (sym same) key)

-- an input that filled the buffer is not accepted, so there is no set
begun_named : (buffer : List ℕ) (n : ℕ) → input_room ≤ length buffer → (whole t : List ℕ) → Begins buffer n whole
    → NamedText (take n buffer) t → NamedText whole t
begun_named buffer n room whole t (same, inl all) named = subst (λ l. NamedText l t) (sym same ∙ take_all n whole (omega arith)) named
begun_named buffer n room whole t (same, inr full) named =
    let read : length (take n whole) ≡ n = ap length same ∙ length-take-le n buffer (omega arith) in
    λ none. absurd (omega (arith, longest whole none, read, length-take n whole))

pub printed_whole : (buffer : List ℕ) (n : ℕ) (text text' : List ℕ) (m : ℕ) → input_room ≤ length buffer
    → Prints (take (n - 0) (drop 0 buffer)) text text' m × KeyNamed (take (n - 0) (drop 0 buffer)) text' m
    → (whole : List ℕ) → Begins buffer n whole → Prints whole text text' m × KeyNamed whole text' m
printed_whole buffer n text text' m room ((t, key, long, fits, placed), named) whole begins =
    let same : n - 0 ≡ n = omega arith in (
      (t, begun buffer n room whole t begins (subst (λ k. Key (take k buffer) t) same key), long, fits, placed),
      begun_named buffer n room whole (take m text') begins (subst (λ k. NamedText (take k buffer) (take m text')) same named),
    )
