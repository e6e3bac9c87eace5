-- What each list costs and loads, kept over a run of soft tail exchange: which entries are right. For the contracts of src/ and of `soft_exchange`. Assumes
-- nothing.
use Rattle.std.specs.Prelude.{◌≡◌, List, ℕ, ◌<◌, ℤ, length, get_or, set}
use Rattle.std.specs.Float.{nan}
use Rattle.labels.specs.Columns.{Columns}
use Rattle.list_changes.specs.Edits.{at}
use Rattle.tail_prices.specs.Changes.{figure_of}
use Rattle.tail_candidates.specs.declared.Terms.{Terms}
use Rattle.tail_prices.specs.declared.Figure.{Figure}
use Rattle.tail_prices.specs.declared.Figures.{Figures}

-- where there is no entry
abbrev pub no_figure : Figure
no_figure = record { load = 0; cost = nan }

-- the entry of each of the first n lists, of at most 16, says what the list costs and loads
pub record KeptFigures (c : Columns) (demand : List ℤ) (t : Terms) (ls : List (List ℕ)) (n : ℕ) (entries : List Figure) : Type 0 where
  pub long : length entries ≡ 16
  pub entry : (k : ℕ) → k < n → get_or entries k no_figure ≡ figure_of c demand t (at ls k)

-- the figures of two lists put among the entries, and no others
abbrev pub figured_again : Columns → List ℤ → Terms → List (List ℕ) → ℕ → ℕ → List Figure → List Figure
figured_again c demand t ls one other entries = set (set entries one (figure_of c demand t (at ls one))) other (figure_of c demand t (at ls other))

-- the entries of two lists
abbrev pub figures_at : List Figure → ℕ → ℕ → Figures
figures_at entries one other = record { one = get_or entries one no_figure; other = get_or entries other no_figure }
