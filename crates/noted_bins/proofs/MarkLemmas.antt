-- Rows of a list of entries with a mark for each.
use Rattle.std.proofs.Common.{◌≡◌, ℕ, zero, suc, ◌<◌, List, [], ◌∷◌, ◌++◌, length, Option, Some, None, refl, sym, ap, ◌∙◌, arith, get_or}
use Rattle.std.specs.FinMap as map
use Rattle.bins.specs.Table.{Entry}
use Rattle.bins.specs.Entries.{entry_of}
use Rattle.timed_bins.specs.Deadlines.{TimedTable}
use Rattle.noted_bins.specs.declared.mark.Mark.{Mark}
use Rattle.noted_bins.specs.Marks.{mark_of, rows_in, saved_as}
use Rattle.noted_bins.specs.Rows.{Row, Saved, row_of}
use Rattle.noted_bins.specs.Taking.{row_at}

pub rows_length : (marks : List Mark) (entries : List Entry) → length marks ≡ length entries → length (rows_in marks entries) ≡ length marks
rows_length [] entries e = refl
rows_length (mark ∷ marks) [] e = absurd (omega (arith, e))
rows_length (mark ∷ marks) (entry ∷ entries) e = let rest = rows_length marks entries (omega (arith, e)) in omega (arith, rest)

pub rows_more : (marks : List Mark) (entries : List Entry) (more : List Mark) (others : List Entry) → length marks ≡ length entries
    → rows_in (marks ++ more) (entries ++ others) ≡ rows_in marks entries ++ rows_in more others
rows_more [] [] more others e = refl
rows_more [] (entry ∷ entries) more others e = absurd (omega (arith, e))
rows_more (mark ∷ marks) [] more others e = absurd (omega (arith, e))
rows_more (mark ∷ marks) (entry ∷ entries) more others e =
    ap (λ (rows : List Row). (entry.0, saved_as mark entry.1) ∷ rows) (rows_more marks entries more others (omega (arith, e)))

-- one more row
pub row_added : (marks : List Mark) (entries : List Entry) (mark : Mark) (key value : List ℕ) (saved : Saved) → length marks ≡ length entries → saved_as mark value ≡ saved
    → rows_in (marks ++ mark ∷ []) (entries ++ (key, value) ∷ []) ≡ rows_in marks entries ++ (key, saved) ∷ []
row_added marks entries mark key value saved e is =
    rows_more marks entries (mark ∷ []) ((key, value) ∷ []) e ∙ ap (λ (s : Saved). rows_in marks entries ++ (key, s) ∷ []) is

pub row_added_to : (marks marks' : List Mark) (entries entries' : List Entry) (mark : Mark) (key value : List ℕ) (saved : Saved) → length marks ≡ length entries
    → saved_as mark value ≡ saved → marks' ≡ marks ++ mark ∷ [] → entries' ≡ entries ++ (key, value) ∷ [] → rows_in marks' entries' ≡ rows_in marks entries ++ (key, saved) ∷ []
row_added_to marks marks' entries entries' mark key value saved e is more others =
    ap (λ (ms : List Mark). rows_in ms entries') more ∙ ap (rows_in (marks ++ mark ∷ [])) others ∙ row_added marks entries mark key value saved e is

-- the row at a position
pub row_here : (marks : List Mark) (entries : List Entry) (p : ℕ) (d : Mark) → length marks ≡ length entries → p < length marks
    → row_at (rows_in marks entries) p ≡ ((entry_of entries p).0, saved_as (get_or marks p d) (entry_of entries p).1)
row_here [] entries p d e lt = absurd (omega (arith, lt))
row_here (mark ∷ marks) [] p d e lt = absurd (omega (arith, e))
row_here (mark ∷ marks) (entry ∷ entries) zero d e lt = refl
row_here (mark ∷ marks) (entry ∷ entries) (suc p) d e lt = row_here marks entries p d (omega (arith, e)) (omega (arith, lt))

pub row_told : (marks : List Mark) (entries : List Entry) (p : ℕ) (mark : Mark) (key value : List ℕ) (saved : Saved) → length marks ≡ length entries → p < length marks
    → mark ≡ get_or marks p mark → ◌≡◌ {A = Entry} (key, value) (entry_of entries p) → saved ≡ saved_as mark value → ◌≡◌ {A = Row} (key, saved) (row_at (rows_in marks entries) p)
row_told marks entries p mark key value saved e lt marked entry is =
    let there : ◌≡◌ {A = Row} (key, saved_as mark value) ((entry_of entries p).0, saved_as (get_or marks p mark) (entry_of entries p).1) =
    λ i. ((entry i).0, saved_as (marked i) (entry i).1) in
    let given : ◌≡◌ {A = Row} (key, saved) (key, saved_as mark value) = λ i. (key, is i) in
    given ∙ there ∙ sym (row_here marks entries p mark e lt)

-- a key with an entry
pub present : (table : TimedTable) (key value : List ℕ) → map.get table.table key ≡ Some value → saved_as (mark_of (table.deadline key)) value ≡ row_of table key
present table key value is = by_deadline (table.deadline key) refl
  where
    row : row_of table key ≡ Some (value, table.deadline key)
    row = rw is refl

    by_deadline : (deadline : Option ℕ) → table.deadline key ≡ deadline → saved_as (mark_of deadline) value ≡ row_of table key
    by_deadline None same = sym (row ∙ ap (λ (d : Option ℕ). Some (value, d)) same)
    by_deadline (Some at) same = sym (row ∙ ap (λ (d : Option ℕ). Some (value, d)) same)
