-- The copies out of and into a row of job records, and that the row at the end has the boards of the rules. Assumes nothing.
use Rattle.std.specs.Prelude.{◌≡◌, refl, List, [], ◌∷◌, ℕ, zero, suc, ◌+◌, ◌≤◌, ◌<◌, length, set}
use Rattle.std.proofs.Common.{sym, ap, ap₂, ◌∙◌, zero-add, add-zero, add-one, arith, length-set, ext_get_or, get_or-set_same, get_or-set_other}
use Rattle.std.proofs.Math.Decide.{ℕ_discrete}
use Rattle.std.proofs.lemmas.List.{length-map, length-replicate}
use Rattle.std.proofs.Math.ListN.{get_or-map}
use Rattle.rules.specs.Sizes.{max_jobs}
use Rattle.rules.specs.Basics.{at}
use Rattle.rules.specs.Needs.{Need}
use Rattle.rules.specs.Program.{slots}
use Rattle.rules.specs.Boards.{boards}
use Rattle.laws.specs.Counting.{at-largest}
use Rattle.layout.specs.Layout.{tables_in}
use Rattle.slotboards.specs.declared.JobRecord.{JobRecord}
use Rattle.slotboards.specs.declared.Columns.{Columns}
use Rattle.slotboards.specs.Placing.{blank, Placeable, Plan, Boarded}
use Rattle.slotboards.specs.Rows.{Seated, starts_of, with_boards, rules_rows, RowsSeated, RowsBoarded, PathIn, path_of}
use Rattle.slotboards.specs.Rows.{nth_record, blank_columns, with_start, loaded, record_of, stored}
use Rattle.slotboards.specs.Paths.{path-has, path-from}

-- ---- starts and places make a path

module _ (needs : List Need) (t words places : List ℕ) (count : ℕ) (h : Seated needs t words places count)
    (starts : List ℕ) (same : (i : ℕ) → i < length t → at starts i ≡ at t i) where
  in-slots : (i : ℕ) → i < length t → at t i < count
  unfolding slots
  in-slots i l = omega (arith, at-largest t i l, h.slots-are)

  pub seated-in : PathIn starts places (length t)
  seated-in i l = let few = h.slots-few in (omega (arith, same i l, in-slots i l), h.place-low i l)

  -- the job at a place, its slot and that place
  job_of : (i s p : ℕ) → i < length t → at starts i ≡ s → at places i ≡ p → ((tables_in words).who s p ≡ i) × (at t i ≡ s)
  job_of i s p l e f = let q : at t i ≡ s = sym (same i l) ∙ e in (rw (q, f) at (h.who-is i l), q)

  pub seated-placeable : Placeable (length t) needs t words (path_of starts places (length t)) count
  seated-placeable = record {
    few = h.few;
    slots-few = h.slots-few;
    slots-are = h.slots-are;
    len = refl;
    needs-in = h.needs-in;
    kept = h.kept;
    at_place = λ s p l m. let w = path-from starts places (length t) s p seated-in m in let k = job_of w.0 s p w.1.0 w.1.1 w.1.2 in
        (rw w.1.2 at (h.place-low w.0 w.1.0), rw k.0 w.1.0, rw k.0 k.1);
    of-job = λ i l. (at places i, rw (same i l) at (path-has starts places (length t) i seated-in l), h.who-is i l);
    apart = λ s p q l m n e. let w = path-from starts places (length t) s p seated-in m in let v = path-from starts places (length t) s q seated-in n in
        let k = job_of w.0 s p w.1.0 w.1.1 w.1.2 in let j = job_of v.0 s q v.1.0 v.1.1 v.1.2 in
        sym w.1.2 ∙ ap (at places) (sym k.0 ∙ e ∙ j.0) ∙ v.1.2;
    givers = λ s p q l m n. let w = path-from starts places (length t) (suc s) p seated-in m in let v = path-from starts places (length t) s q seated-in n in
        let k = job_of w.0 (suc s) p w.1.0 w.1.1 w.1.2 in let j = job_of v.0 s q v.1.0 v.1.1 v.1.2 in
        rw (k.0, j.0) (rw (k.1, w.1.2, v.1.2) at (h.givers v.0 w.0 v.1.0 w.1.0 (omega (arith, k.1, j.1))));
  }

-- ---- one record more

pub loaded-none : (rows : List JobRecord) → loaded rows 0 ≡ blank_columns
unfolding loaded
loaded-none rows = refl

pub loaded-next : (rows : List JobRecord) (i : ℕ) → with_start (loaded rows i) i (nth_record rows i) ≡ loaded rows (i + 1)
unfolding loaded
loaded-next rows i = rw (add-one i)

pub stored-none : (c : Columns) (rows : List JobRecord) → stored c 0 rows ≡ rows
unfolding stored
stored-none c rows = refl

pub stored_next : (c : Columns) (i : ℕ) (rows : List JobRecord) → set (stored c i rows) i (record_of c i) ≡ stored c (i + 1) rows
unfolding stored
stored_next c i rows = rw (add-one i)

pub length-stored : (c : Columns) (i : ℕ) (rows : List JobRecord) → length (stored c i rows) ≡ length rows
unfolding stored
length-stored c zero rows = refl
length-stored c (suc i) rows = length-set (stored c i rows) i (record_of c i) ∙ length-stored c i rows

-- ---- all records

start-at : (rows : List JobRecord) (i : ℕ) → at (starts_of rows) i ≡ (nth_record rows i).start
start-at rows i = get_or-map (λ r. r.start) rows i (record { start = 0; board = 0 })

loaded-size : (rows : List JobRecord) (m : ℕ) → length (loaded rows m).starts ≡ max_jobs
unfolding loaded blank
loaded-size rows zero = length-replicate {A = ℕ} max_jobs 0
loaded-size rows (suc m) = length-set (loaded rows m).starts m (nth_record rows m).start ∙ loaded-size rows m

loaded_at : (rows : List JobRecord) (m i : ℕ) → i < m → m ≤ max_jobs → at (loaded rows m).starts i ≡ at (starts_of rows) i
unfolding loaded
loaded_at rows zero i l k = absurd (omega arith)
loaded_at rows (suc m) i l k = go (ℕ_discrete i m) (λ j. loaded_at rows m i j (omega arith))
  where
    go : Dec (i ≡ m) → (i < m → at (loaded rows m).starts i ≡ at (starts_of rows) i)
        → at (set (loaded rows m).starts m (nth_record rows m).start) i ≡ at (starts_of rows) i
    go (yes e) r = rw e (get_or-set_same (loaded rows m).starts m (nth_record rows m).start 0 (omega (arith, loaded-size rows m)) ∙ sym (start-at rows m))
    go (no e) r = get_or-set_other (loaded rows m).starts m i (nth_record rows m).start 0 e ∙ r (omega arith)

starts-length : (rows : List JobRecord) → length (starts_of rows) ≡ length rows
starts-length rows = length-map rows (λ r. r.start)

module _ (needs : List Need) (rows : List JobRecord) (words places : List ℕ) (count : ℕ) (h : Seated needs (starts_of rows) words places count) where
  same-starts : (i : ℕ) → i < length (starts_of rows) → at (loaded rows (length rows)).starts i ≡ at (starts_of rows) i
  same-starts i l = let few = h.few in loaded_at rows (length rows) i (omega (arith, starts-length rows)) (omega (arith, starts-length rows))

  -- the copied starts and the places are as the placing over arrays asks
  pub rows_in : PathIn (loaded rows (length rows)).starts places (length rows)
  rows_in = rw (starts-length rows) at (seated-in needs (starts_of rows) words places count h (loaded rows (length rows)).starts same-starts)

  pub rows-placeable : Placeable (length rows) needs (starts_of rows) words (path_of (loaded rows (length rows)).starts places (length rows)) count
  rows-placeable = rw (starts-length rows) at (seated-placeable needs (starts_of rows) words places count h (loaded rows (length rows)).starts same-starts)

pub rows_few : (rows : List JobRecord) (words places : List ℕ) (count : ℕ) → RowsSeated rows words places count → length rows ≤ max_jobs
rows_few rows words places count h = rw (starts-length rows) at h.seated.few

pub rows-plan : (rows : List JobRecord) (words places : List ℕ) (count : ℕ) → RowsSeated rows words places count
    → (c : Columns) (m : ℕ) → c ≡ loaded rows m → m ≡ length rows → PathIn c.starts places m × Plan m words (path_of c.starts places m) count
rows-plan rows words places count h c m e f =
    let able = rows-placeable h.needs rows words places count h.seated in
    rw (e, f) (rows_in h.needs rows words places count h.seated, record { needs = h.needs; starts = starts_of rows; able = able })

-- ---- the row at the end

stored-done : (c : Columns) (m i : ℕ) (rows : List JobRecord) → i < m → m ≤ length rows → nth_record (stored c m rows) i ≡ record_of c i
unfolding stored
stored-done c zero i rows l k = absurd (omega arith)
stored-done c (suc m) i rows l k = go (ℕ_discrete i m) (λ j. stored-done c m i rows j (omega arith))
  where
    go : Dec (i ≡ m) → (i < m → nth_record (stored c m rows) i ≡ record_of c i) → nth_record (set (stored c m rows) m (record_of c m)) i ≡ record_of c i
    go (yes e) r = rw e (get_or-set_same (stored c m rows) m (record_of c m) (record { start = 0; board = 0 }) (omega (arith, length-stored c m rows)))
    go (no e) r = get_or-set_other (stored c m rows) m i (record_of c m) (record { start = 0; board = 0 }) e ∙ r (omega arith)

length-with : (b : ℕ → ℕ) (j : ℕ) (rows : List JobRecord) → length (with_boards b j rows) ≡ length rows
unfolding with_boards
length-with b j [] = refl
length-with b j (r ∷ rs) = ap suc (length-with b (suc j) rs)

with_at : (b : ℕ → ℕ) (j : ℕ) (rows : List JobRecord) (i : ℕ) → i < length rows
    → nth_record (with_boards b j rows) i ≡ record { start = (nth_record rows i).start; board = b (j + i) }
unfolding with_boards
with_at b j [] i h = absurd (omega arith)
with_at b j (r ∷ rs) zero h = rw add-zero
with_at b j (r ∷ rs) (suc i) h = with_at b (suc j) rs i (omega arith) ∙ ap (λ (n : ℕ). record { start = (nth_record rs i).start; board = b n }) (omega arith)

-- the records are written back with their starts as they were
stored-all : (c : Columns) (b : ℕ → ℕ) (rows : List JobRecord) → length rows ≤ max_jobs → c.starts ≡ (loaded rows (length rows)).starts
    → ((i : ℕ) → i < length rows → at c.boards i ≡ b i) → stored c (length rows) rows ≡ with_boards b 0 rows
stored-all c b rows few e f = ext_get_or (record { start = 0; board = 0 }) (stored c (length rows) rows) (with_boards b 0 rows)
    (length-stored c (length rows) rows ∙ sym (length-with b 0 rows)) (λ i l. go i (omega (arith, length-stored c (length rows) rows)))
  where
    go : (i : ℕ) → i < length rows → nth_record (stored c (length rows) rows) i ≡ nth_record (with_boards b 0 rows) i
    go i l =
        let q : at c.starts i ≡ (nth_record rows i).start = ap (λ (a : List ℕ). at a i) e ∙ loaded_at rows (length rows) i l few ∙ start-at rows i in
        let g = f i l in
        stored-done c (length rows) i rows l (omega arith) ∙ (rw (with_at b 0 rows i l, zero-add, q, g) refl)

-- what the thin form gives, from what its parts give
pub rows-placed : (rows : List JobRecord) (words places : List ℕ) (count : ℕ) (c : Columns) → c.starts ≡ (loaded rows (length rows)).starts
    → Boarded (length rows) words (path_of (loaded rows (length rows)).starts places (length rows)) count c.count c.boards
    → RowsBoarded rows words places count (record { count = c.count; rows = stored c (length rows) rows })
unfolding rules_rows
rows-placed rows words places count c e h = record {
  rows_are = λ needs k. let able = rows-placeable needs rows words places count k in
      let b = h.board-is needs (starts_of rows) able in
      ap₂ (λ (k : ℕ) (l : List JobRecord). record { count = k; rows = l }) (h.count-is needs (starts_of rows) able)
      (stored-all c (at (boards (length rows) needs (starts_of rows))) rows able.few e (λ i _. b i));
}
