-- The lists of a call as they are lent: 'all lists lie one after another in a lent table of u16, with a second table of lengths', and the same
-- as a list of lists, both ways. For every contract over the two tables. Assumes nothing.
use Rattle.std.specs.Prelude.{◌≡◌, List, [], ◌∷◌, ◌++◌, ℕ, ◌+◌, ◌≤◌, length, get_or, take, drop}
use Rattle.edits.specs.Total.{total}

-- numbers added up
abbrev pub sum : List ℕ → ℕ
sum xs = total (λ x. x) xs

-- the lists that the tables hold: each takes its length's worth of the visits that the lists before it leave
unfoldable pub lists : List ℕ → List ℕ → List (List ℕ)
lists visits [] = []
lists visits (n ∷ lengths) = take n visits ∷ lists (drop n visits) lengths

-- the lists one after another
unfoldable pub flat : List (List ℕ) → List ℕ
flat [] = []
flat (xs ∷ ls) = xs ++ flat ls

-- and their lengths
unfoldable pub lengths_of : List (List ℕ) → List ℕ
lengths_of [] = []
lengths_of (xs ∷ ls) = length xs ∷ lengths_of ls

-- where list r starts: behind the lists before it
unfoldable pub start_of : List ℕ → ℕ → ℕ
start_of lengths r = sum (take r lengths)

-- list r, as its part of the visits
unfoldable pub list_of : List ℕ → List ℕ → ℕ → List ℕ
list_of visits lengths r = take (get_or lengths r 0) (drop (start_of lengths r) visits)

-- the visits with another list, of any length, in the place of list r
unfoldable pub with_list : List ℕ → List ℕ → ℕ → List ℕ → List ℕ
with_list visits lengths r new = take (start_of lengths r) visits ++ (new ++ drop (start_of lengths r + get_or lengths r 0) visits)

-- what every edit of the tables asks, and keeps: at most 16 lists, whose lengths add up to the table, of 16 times 63 visits at most
pub record Laid (visits lengths : List ℕ) : Type 0 where
  pub few : length lengths ≤ 16
  pub add_up : sum lengths ≡ length visits
  pub size : length visits ≤ 1008
