-- The definitions, computed: the two moves of document 01's worked days, and the dropping. Assumes nothing.
use mathlib.Core.Path.{◌≡◌, refl}
use mathlib.Core.List.{[], ◌∷◌}
use Rattle.lists.specs.Table.{lists}
use Rattle.list_changes.specs.Edits.{relocated, tails_exchanged, filled, nonzero, packed}

-- 01: 'Relocate on 1,3 and 2, capacity 3: one list 1,2,3'
relocation : filled (relocated ((1 ∷ 3 ∷ []) ∷ (2 ∷ []) ∷ []) 1 0 0 1) ≡ (1 ∷ 2 ∷ 3 ∷ []) ∷ []
unfolding relocated
relocation = refl

-- 01: 'Tail exchange on 3,1 and 2,4, capacity 2: 3,4 and 2,1'
tails : tails_exchanged ((3 ∷ 1 ∷ []) ∷ (2 ∷ 4 ∷ []) ∷ []) 0 1 1 1 ≡ (3 ∷ 4 ∷ []) ∷ (2 ∷ 1 ∷ []) ∷ []
unfolding tails_exchanged
tails = refl

-- four lists, of which two are empty, in the tables before and after the dropping
dropping : lists (7 ∷ 8 ∷ 9 ∷ []) (packed (0 ∷ 2 ∷ 0 ∷ 1 ∷ [])) ≡ (7 ∷ 8 ∷ []) ∷ (9 ∷ []) ∷ [] ∷ [] ∷ []
unfolding lists packed nonzero
dropping = refl
