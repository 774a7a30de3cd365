-- Extra jobs behind those of a gate (document 02, request 12), said of job files and of the planner's answers: "every gate job keeps the start it has without
-- them, however the extras change within these terms". Assumes nothing.
-- The definitions are in specs/ExtraFiles.antt; here are the theorems that depend on what a must-fail edit breaks.
use Rattle.std.specs.Prelude.{◌≡◌, ◌⊎◌, List, ◌++◌, ℕ, ◌+◌, ◌≤◌, ◌<◌, length, take, drop}
use Rattle.std.proofs.Common.{sym, ◌∙◌, inl, inr, arith, length-append}
use Rattle.std.proofs.Math.Path.{ap}
use Rattle.std.proofs.Math.Option.{some}
use Rattle.std.proofs.Math.Decide.{dec_lt}
use Rattle.rules.specs.Sizes.{max_boards, max_width}
use Rattle.rules.specs.Basics.{at}
use Rattle.rules.specs.Numbers.{Bytes}
use Rattle.rules.specs.Fields.{Answer, refused, got, after}
use Rattle.rules.specs.Needs.{Gives, Circle}
use Rattle.rules.specs.JobFile.{JobFile, most_boards}
use Rattle.rules.specs.Program.{slots, Kept, Fits}
use Rattle.rules.specs.Windows.{width}
use Rattle.rules.specs.Boards.{Capped, Runs}
use Rattle.rules.specs.Table.{Table, starts}
use Rattle.rules.specs.Answers.{Outcome, table_of, plan_table, written, plan}
use Rattle.laws.specs.JobFile.{Readable, needs-in, readable}
use Rattle.laws.specs.Program.{program-is}
use Rattle.laws.specs.Width.{file_width}
use Rattle.laws.specs.Best.{BestWithin, best-is, best-only}
use Rattle.laws.specs.Planned.{wide-capped, too_wide, written-where, starts-are}
use Rattle.laws.specs.Demands.{asked, plan-full, FromFile, from-file, answers-full}
use Rattle.laws.proofs.Demands.{answers-table, table-passes}
use Rattle.laws.specs.Parts.{Part, part_free, part-width}
use Rattle.laws.specs.Extras.{UnionIn}
use Rattle.laws.proofs.Extras.{gate-part, extras-part, union-free, gate-kept, extras-kept, append-kept}
use Rattle.laws.specs.Extras.{BestKept, append-fits, gate-fits, extras-fit}
use Rattle.laws.proofs.Extras.{gate-keeps}
use Rattle.laws.specs.ExtraFiles.{Extended, EightBoards, Says, Gets, ThreeTables}

-- ---- a file with eight boards

-- the start list u keeps its needs within its limit
abbrev Within : JobFile → List ℕ → Type 0
Within f u = Kept (Gives f.needs) (at u) × Fits (length f.jobs) f.limit u

-- what a table for it says
record Planned (f : JobFile) (T : Table) : Type 0 where
  free : ¬ (Circle f.needs)
  narrow : file_width f ≤ max_width
  best : BestKept (length f.jobs) f.needs f.limit (starts T)
  slots-are : T.slots ≡ slots (starts T)

module _ {f : JobFile} (b : EightBoards f) where
  -- a list within the limit has no more jobs in a slot than there are boards
  few : file_width f ≤ max_width → (u : List ℕ) → Within f u → Capped (length f.jobs) (most_boards f) u
  few narrow u (k, h) = wide-capped f b.ok (most_boards f) (omega (arith, narrow, b.eight)) u k h

  -- without a circle and not too wide, the file gets a table where some list keeps its needs within its limit
  plans : ¬ (Circle f.needs) → file_width f ≤ max_width → (u : List ℕ) → Within f u → (T : Table) × (plan_table f ≡ got T)
  plans free narrow u h =
      let p = (program-is (length f.jobs) f.needs f.limit u b.ok.distinct (needs-in f b.ok)).1 h in
      let w = written-where f b.ok free narrow u (p, few narrow u h) in
      (table_of f w.0, w.2)

  -- and that is the table of the best such list
  planned : (T : Table) → plan_table f ≡ got T → Planned f T
  unfolding table_of
  planned T e = record {
    free = w.no-circle;
    narrow = w.narrow;
    best = rw back (best.0.kept, best.1, λ u k h. best.2 u record { kept = k; capped = few w.narrow u (k, h) } h);
    slots-are = ap (λ (x : Table). x.slots) w.table_is ∙ ap slots (sym back);
  }
    where
      w : FromFile f T
      w = from-file f b.ok T e

      back : starts T ≡ w.list
      back = ap starts w.table_is ∙ starts-are f b.ok w.no-circle w.narrow w.list w.short

      best : BestWithin (length f.jobs) f.limit (Runs (length f.jobs) f.needs (most_boards f)) (some w.list)
      best =
          let only = best-only (length f.jobs) f.needs (most_boards f) f.limit b.ok.distinct (needs-in f b.ok) b.ok.limit-in.0 in
          rw (only w.list w.short) at (best-is (length f.jobs) f.needs (most_boards f) f.limit)

-- ---- the three files

module _ {gate extras whole : JobFile} (gate-ok : Readable gate) (extras-ok : Readable extras) (whole-ok : Readable whole)
    (x : Extended max_boards gate extras whole) where
  -- each has eight boards
  gate-eight : EightBoards gate
  gate-eight = record { ok = gate-ok; eight = omega (arith, x.gate-boards) }

  extras-eight : EightBoards extras
  extras-eight = record { ok = extras-ok; eight = omega (arith, x.extras-boards) }

  whole-eight : EightBoards whole
  whole-eight = record { ok = whole-ok; eight = omega (arith, x.whole-boards) }

  -- how many jobs the gate has, how many extra ones there are, and the limit
  abbrev n : ℕ
  n = length gate.jobs

  abbrev m : ℕ
  m = length extras.jobs

  abbrev L : ℕ
  L = whole.limit

  size : length whole.jobs ≡ n + m
  size = ap length x.jobs ∙ length-append gate.jobs extras.jobs

  union : UnionIn n m gate.needs extras.needs whole.needs
  union = record { gate-in = needs-in gate gate-ok; extras-in = needs-in extras extras-ok; needs = x.needs }

  -- where the whole is planned, so is each group alone
  module _ (W : Table) (e : plan_table whole ≡ got W) where
    free : ¬ (Circle whole.needs)
    free = (planned whole-eight W e).free

    narrow : width (n + m) whole.needs L ≤ max_width
    narrow = rw size at (planned whole-eight W e).narrow

    best : BestKept (n + m) whole.needs L (starts W)
    best = rw size at (planned whole-eight W e).best

    -- a part gets a table where a list for it is at hand
    part-plans : {f : JobFile} {place : ℕ → ℕ} → EightBoards f → Part (length f.jobs) (n + m) f.needs whole.needs place → f.limit ≡ L
        → (u : List ℕ) → Kept (Gives f.needs) (at u) → Fits (length f.jobs) L u → (T : Table) × (plan_table f ≡ got T)
    part-plans b p l u k h = plans b (part_free p free) (rw l (omega (arith, narrow, part-width p free L))) u (k, rw l h)

    gate-plans : (T : Table) × (plan_table gate ≡ got T)
    gate-plans =
        part-plans gate-eight (gate-part union) x.gate-limit (take n (starts W)) (gate-kept union (starts W) best.0)
        (gate-fits n m L whole-ok.limit-in.0 (starts W) best.1)

    extras-plans : (T : Table) × (plan_table extras ≡ got T)
    extras-plans =
        part-plans extras-eight (extras-part union) x.extras-limit (drop n (starts W)) (extras-kept union (starts W) best.0)
        (extras-fit n m L whole-ok.limit-in.0 (starts W) best.1)

    -- "every gate job keeps the start it has without them": the starts of the whole begin with those of the gate
    keeps : (G E : Table) → plan_table gate ≡ got G → plan_table extras ≡ got E → E.slots ≤ G.slots → take (length (starts G)) (starts W) ≡ starts G
    keeps G E p q short =
        ap (λ (k : ℕ). take k (starts W)) g.best.1.len
        ∙ gate-keeps union L whole-ok.limit-in.0 (starts W) (starts G) (starts E) best (rw x.gate-limit at g.best) (rw x.extras-limit at r.best)
        (omega (arith, short, g.slots-are, r.slots-are))
      where
        g : Planned gate G
        g = planned gate-eight G p

        r : Planned extras E
        r = planned extras-eight E q

  -- where both groups are planned, the whole is, or it is too wide
  whole-plans : (G E : Table) → plan_table gate ≡ got G → plan_table extras ≡ got E → ((W : Table) × (plan_table whole ≡ got W)) ⊎ (plan_table whole ≡ refused 12)
  whole-plans G E p q = go (dec_lt max_width (file_width whole))
    where
      g : Planned gate G
      g = planned gate-eight G p

      r : Planned extras E
      r = planned extras-eight E q

      free : ¬ (Circle whole.needs)
      free = union-free union g.free r.free

      fits : Fits (n + m) L (starts G ++ starts E)
      fits = append-fits n m L whole-ok.limit-in.0 (starts G) (starts E) (rw x.gate-limit at g.best.1) (rw x.extras-limit at r.best.1)

      within : Within whole (starts G ++ starts E)
      within = (append-kept union (starts G) (starts E) g.best.1.len g.best.0 r.best.0, rw size fits)

      go : Dec (max_width < file_width whole) → ((W : Table) × (plan_table whole ≡ got W)) ⊎ (plan_table whole ≡ refused 12)
      go (no h) = inl (plans whole-eight free (omega arith) (starts G ++ starts E) within)
      go (yes h) = inr (too_wide whole whole-ok free h)

-- ---- the planner's answers

-- such a file is readable, and what is planned for it is planned for what it says
module _ {file : List ℕ} {f : JobFile} (s : Says file f) where
  says-readable : Readable f
  says-readable = readable file s.bytes f s.read

  says-asked : asked file ≡ plan_table f
  unfolding after
  says-asked = ap (λ (r : Answer JobFile). after r plan_table) s.read

gets : (file : List ℕ) → Bytes file → (T : Table) → asked file ≡ got T → Gets file T
gets file bytes T e = record {
  leads = e;
  writes = λ work table p q. plan-full file work table p q ∙ ap (λ (r : Answer Table). written r work table) e;
  passes = table-passes file bytes T e;
}

module _ {gate extras whole : List ℕ} {g e w : JobFile} (gate-says : Says gate g) (extras-says : Says extras e) (whole_says : Says whole w)
    (x : Extended max_boards g e w) where
  -- "the two together are planned": then so is each group alone; and where the extras have no more slots than the gate, it keeps its starts
  pub starts-kept : (work table : List ℕ) → (plan whole work table).number ≡ 0 → ThreeTables gate extras whole
  starts-kept work table zero =
      let W = answers-table whole work table zero in
      let p = sym (says-asked whole_says) ∙ W.1 in
      let G = gate-plans (says-readable gate-says) (says-readable extras-says) (says-readable whole_says) x W.0 p in
      let E = extras-plans (says-readable gate-says) (says-readable extras-says) (says-readable whole_says) x W.0 p in
      record {
        gate-table = G.0;
        extras-table = E.0;
        whole-table = W.0;
        gate-gets = gets gate gate-says.bytes G.0 (says-asked gate-says ∙ G.1);
        extras-gets = gets extras extras-says.bytes E.0 (says-asked extras-says ∙ E.1);
        whole-gets = gets whole whole_says.bytes W.0 W.1;
        keeps = keeps (says-readable gate-says) (says-readable extras-says) (says-readable whole_says) x W.0 p G.0 E.0 G.1 E.1;
      }

  -- the other way round: where each group alone is planned, the two together are, or get 12
  pub whole-or-12 : (work table : List ℕ) → (plan gate work table).number ≡ 0 → (plan extras work table).number ≡ 0
      → ((plan whole work table).number ≡ 0) ⊎ ((plan whole work table).number ≡ 12)
  unfolding written
  whole-or-12 work table a b =
      go (whole-plans (says-readable gate-says) (says-readable extras-says) (says-readable whole_says) x G.0 E.0 (sym (says-asked gate-says) ∙ G.1)
      (sym (says-asked extras-says) ∙ E.1))
    where
      G : (T : Table) × (asked gate ≡ got T)
      G = answers-table gate work table a

      E : (T : Table) × (asked extras ≡ got T)
      E = answers-table extras work table b

      number : (r : Answer Table) → plan_table w ≡ r → (plan whole work table).number ≡ (written r work table).number
      number r z =
          let full = answers-full gate work table a in
          ap (λ (o : Outcome). o.number) (plan-full whole work table full.0 full.1)
          ∙ ap (λ (y : Answer Table). (written y work table).number) (says-asked whole_says ∙ z)

      go : ((W : Table) × (plan_table w ≡ got W)) ⊎ (plan_table w ≡ refused 12) → ((plan whole work table).number ≡ 0) ⊎ ((plan whole work table).number ≡ 12)
      go (inl (W, z)) = inl (number (got W) z)
      go (inr z) = inr (number (refused 12) z)
