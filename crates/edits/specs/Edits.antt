-- The edits of one list of visits, as lists: what the functions of src/ make of their slice, for the contracts and for the engines above.
-- Places count from 0; a stretch goes from a place up to, not including, another. Assumes nothing.
use Rattle.std.specs.Prelude.{◌≡◌, true, false, List, ◌∷◌, ◌++◌, reverse, ℕ, suc, ◌+◌, ltb, length, take, drop, get_or, set}
use Rattle.std.proofs.Math.Seq.{slice}

-- the visits at two places exchanged
unfoldable pub swapped : ℕ → ℕ → List ℕ → List ℕ
swapped i j xs = set (set xs i (get_or xs j 0)) j (get_or xs i 0)

-- 01, 2-opt: 'reverse a run': the stretch in the opposite order
unfoldable pub reversed : ℕ → ℕ → List ℕ → List ℕ
reversed from to xs = take from xs ++ reverse (slice from to xs) ++ drop to xs

-- two neighbouring stretches, from..middle and middle..to, exchanged
unfoldable pub exchanged : ℕ → ℕ → ℕ → List ℕ → List ℕ
exchanged from middle to xs = take from xs ++ slice middle to xs ++ slice from middle xs ++ drop to xs

-- 01, Or-opt: 'goes before the visit at position to of the original list': the piece of `size` visits at `from`
unfoldable pub put_before : ℕ → ℕ → ℕ → List ℕ → List ℕ
put_before from size to xs =
    let behind = from + size in
    elim (ltb to from) [
      | true ↦ take to xs ++ slice from behind xs ++ slice to from xs ++ drop behind xs
      | false ↦ take from xs ++ slice behind to xs ++ slice from behind xs ++ drop to xs
    ]

-- the stretches from..a and b..to exchanged, round the stretch a..b between them, which stays as it is
unfoldable pub outer_exchanged : ℕ → ℕ → ℕ → ℕ → List ℕ → List ℕ
outer_exchanged from a b to xs = take from xs ++ slice b to xs ++ slice a b xs ++ slice from a xs ++ drop to xs

-- a visit put in at a place
abbrev pub inserted : List ℕ → ℕ → ℕ → List ℕ
inserted xs visit place = take place xs ++ visit ∷ drop place xs

-- the list that the visit at a position has left
abbrev pub without : List ℕ → ℕ → List ℕ
without xs position = take position xs ++ drop (suc position) xs

-- a buffer whose first `count` visits were in use, and are followed now by `part`: the first `end` are in use, and what is behind is kept
pub record Appended (count : ℕ) (part before : List ℕ) (end : ℕ) (after : List ℕ) : Type 0 where
  pub ends : end ≡ count + length part
  pub same_length : length after ≡ length before
  pub filled : take end after ≡ take count before ++ part
  pub behind : drop end after ≡ drop end before
