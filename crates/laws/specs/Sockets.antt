-- The field of the most boards: where it is left out or says eight, no cap is asked for; a readable file that says eight gets the same from planner and check
-- as without the field. Assumes nothing.
use Rattle.std.specs.Prelude.{◌≡◌, Bool, true, false, ◌&&◌, List, [], ◌∷◌, ◌++◌, ℕ, suc, ◌-◌, ◌≤◌, T, leb, eqb}
use Rattle.std.proofs.Math.Path.{refl, sym, ap, ap₂}
use Rattle.std.proofs.Common.{◌∙◌, arith}
use Rattle.std.proofs.Math.ListN.{length, length-append}
use Rattle.rules.specs.Sizes.{max_boards, max_width, max_file}
use Rattle.rules.specs.Basics.{choose, at}
use Rattle.rules.specs.Fields.{Answer, got, ask, after, field, value}
use Rattle.rules.specs.Needs.{circle_free}
use Rattle.rules.specs.JobFile.{JobFile, most_boards, known_tag, in_place, length_ok, content_ok, counted, with_limit, with_sockets, with_job, with_need, job_of}
use Rattle.rules.specs.JobFile.{is_need, need_of, add_need, add_sockets, add_field, read_field, no_fields, complete, read_file}
use Rattle.rules.specs.Program.{keptb}
use Rattle.rules.specs.Windows.{width}
use Rattle.rules.specs.Preference.{best}
use Rattle.rules.specs.Answers.{tabled, plan_table}
use Rattle.laws.specs.Tests.{T-leb, T-eqb, tests}
use Rattle.laws.specs.Fields.{ask-got, after-got, GotBeside, got-beside, ask-beside, choose-beside}
use Rattle.laws.specs.JobFile.{Readable, place-late, place_same}
use Rattle.laws.specs.Planned.{wide_enough}
use Rattle.laws.specs.FileParts.{Fields, read_from, ask_field, over_fields-beside, ask_field-beside, read_from-field, read_file-parts}

-- ---- eight boards ask nothing

-- a question before two answers that are the same where it is answered yes
ask-same : {A : Type 0} (b : Bool) (q : ℕ) (r s : Answer A) → (T b → r ≡ s) → ask b q r ≡ ask b q s
unfolding ask
ask-same true q r s h = h tt
ask-same false q r s h = refl

-- a readable file that says eight boards, or nothing of boards, is planned as if there were no cap
pub eight-asks-nothing : (f : JobFile) → Readable f → most_boards f ≡ max_boards → let n = length f.jobs in
    plan_table f ≡ ask (circle_free n f.needs) 11 (ask (leb (width n f.needs f.limit) max_width) 12 (tabled f (best n (keptb f.needs) f.limit)))
unfolding plan_table
eight-asks-nothing f ok e =
    let n = length f.jobs in
    ap (ask (circle_free n f.needs) 11) (ask-same (leb (width n f.needs f.limit) max_width) 12 _ _ (λ h.
    ap (tabled f) (wide_enough f ok (most_boards f) (omega (arith, (T-leb (width n f.needs f.limit) max_width).0 h)))))

-- ---- the field left out

-- f without the field of the most boards: one field fewer, and nothing said of boards
unfoldable pub without_sockets : JobFile → JobFile
without_sockets f = record { fields = f.fields - 1; limit = f.limit; sockets = 0; jobs = f.jobs; needs = f.needs }

-- two readings, with the field of c boards and without it
module _ (c : ℕ) where
  -- from that field on: the first has read what the second has, and the field
  record Beside (f g : JobFile) : Type 0 where
    one_more : f ≡ with_sockets g c
    late : 2 ≤ g.fields
    unsaid : g.sockets ≡ 0

  -- the field itself, where it is not refused: it says at least one board, stands behind header and limit, and is the first of its tag
  first-beside : (f g : JobFile) → ask_field f 9 (c ∷ []) ≡ got g → (1 ≤ c) × Beside g f
  unfolding in_place content_ok is_need add_field add_sockets choose
  first-beside f g e =
      let q4 = ask-got (known_tag 9) 4 _ g e in
      let q5 = ask-got (in_place f.fields 9) 5 _ g q4.1 in
      let q6 = ask-got (length_ok 9 1 && content_ok 9 (c ∷ [])) 6 _ g q5.1 in
      let q21 = ask-got (eqb f.sockets 0) 21 (got (with_sockets f c)) g q6.1 in
      let s : with_sockets f c ≡ g = cc q21.1 in
      let late = place-late f.fields 9 q5.0 (omega arith) in
      ((simp tests at q6.0).1.0, record { one_more = sym s; late = late; unsaid = (T-eqb f.sockets 0).0 q21.0 })

  -- a file read by both
  file-beside : {u : JobFile} (g : JobFile) → 2 ≤ g.fields → g.sockets ≡ 0 → got (with_sockets g c) ≡ got u → GotBeside Beside u (got g)
  file-beside g h z = got-beside Beside (with_sockets g c) g record { one_more = refl; late = h; unsaid = z }

  -- what a field adds to both; the first refuses a second field of this tag
  add-beside : 1 ≤ c → (g u : JobFile) (tag : ℕ) (v : List ℕ) → 2 ≤ g.fields → g.sockets ≡ 0
      → add_field (with_sockets g c) tag v ≡ got u → GotBeside Beside u (add_field g tag v)
  unfolding add_field add_need add_sockets counted with_limit with_sockets with_job with_need
  add-beside said g u tag v h z =
      choose-beside Beside (eqb tag 2) (λ _. file-beside (with_limit g (at v 0)) (omega arith) z)
      (choose-beside Beside (eqb tag 3) (λ _. ask-beside Beside _ _ 7 (λ t. t) (file-beside (with_job g (job_of v)) (omega arith) z))
      (choose-beside Beside (is_need tag) (λ _. ask-beside Beside _ _ 8 (λ t. t) (file-beside (with_need g (need_of tag v)) (omega arith) z))
      (choose-beside Beside (eqb tag 9) (λ _ e. absurd (omega (arith, (T-eqb c 0).0 (ask-got (eqb c 0) 21 _ u e).0)))
      (file-beside (counted g) (omega arith) z))))

  -- the field at offset a is read by both
  field-beside : 1 ≤ c → (bs : List ℕ) (f g u : JobFile) (a : ℕ) → Beside f g → read_field bs f a ≡ got u → GotBeside Beside u (read_field bs g a)
  unfolding read_field with_sockets
  field-beside said bs f g u a b e =
      ask-beside Beside _ _ 3 (λ t. t) (ask_field-beside Beside (with_sockets g c) g (at bs a) (value bs a)
      (place_same (suc g.fields) g.fields (at bs a) (omega (arith, b.late))) (add-beside said g u (at bs a) (value bs a) b.late b.unsaid))
      (ap (λ (x : JobFile). read_field bs x a) (sym b.one_more) ∙ e)

  -- question 10 is answered by both
  complete-beside : (f g u : JobFile) → Beside f g → complete f ≡ got u → GotBeside Beside u (complete g)
  unfolding complete with_sockets
  complete-beside f g u b e =
      ask-beside Beside _ _ 10 (λ t. simp tests (b.late, (simp tests at t).1)) (file-beside g b.late b.unsaid) (ap complete (sym b.one_more) ∙ e)

  -- so the first says c, and the second all else
  says-beside : (f : JobFile) (r : Answer JobFile) → GotBeside Beside f r → (f.sockets ≡ c) × (r ≡ got (without_sockets f))
  unfolding without_sockets with_sockets
  says-beside f r (g, e, b) = (
    ap (λ (x : JobFile). x.sockets) b.one_more,
    e ∙ ap₂ (λ (n s : ℕ). got (record { fields = n; limit = g.limit; sockets = s; jobs = g.jobs; needs = g.needs })) (omega arith) b.unsaid
        ∙ ap (λ (x : JobFile). got (without_sockets x)) (sym b.one_more),
  )

-- a readable file with a field of c boards says c, and without the field all else
module _ (c : ℕ) (xs ys : List ℕ) (fields : Fields xs) (f : JobFile) (read : read_file (xs ++ (field 9 (c ∷ []) ++ ys)) ≡ got f) where
  pub sockets-read : (f.sockets ≡ c) × (read_file (xs ++ ys) ≡ got (without_sockets f))
  unfolding after
  sockets-read =
      let m = field 9 (c ∷ []) in
      let short : length (xs ++ (m ++ ys)) ≤ max_file = unfold read_file in (T-leb (length (xs ++ (m ++ ys))) max_file).0 (ask-got _ 2 _ f read).0 in
      let w = after-got (read_from xs 0 no_fields) (λ p. after (read_from (m ++ ys) 0 p) complete) f (sym (read_file-parts xs (m ++ ys) fields short) ∙ read) in
      let u = after-got (read_from (m ++ ys) 0 w.0) complete f w.2 in
      let t = after-got (ask_field w.0 9 (c ∷ [])) (read_from ys 0) u.0 (sym (read_from-field 9 (c ∷ []) ys (omega arith) w.0) ∙ u.1) in
      go w.0 t.0 u.0 (omega (arith, length-append xs ys, length-append xs (m ++ ys), length-append m ys)) w.1 t.1 t.2 u.2
    where
      go : (p q r : JobFile) → length (xs ++ ys) ≤ max_file → read_from xs 0 no_fields ≡ got p → ask_field p 9 (c ∷ []) ≡ got q → read_from ys 0 q ≡ got r
          → complete r ≡ got f → (f.sockets ≡ c) × (read_file (xs ++ ys) ≡ got (without_sockets f))
      go p q r short before here behind all =
          let start = first-beside c p q here in
          let w = over_fields-beside (read_field ys) (Beside c) (field-beside c start.0 ys) (length ys) ys 0 q p r start.1 behind in
          let says = says-beside c f (complete w.0) (complete-beside c r w.0 f w.2 all) in
          (says.0, read_file-parts xs ys fields short ∙ rw (before, w.1) says.1)

-- ---- the field of eight boards left out

-- the field
abbrev pub eight_boards : List ℕ
eight_boards = field 9 (8 ∷ [])
