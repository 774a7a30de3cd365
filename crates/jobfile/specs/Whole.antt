-- The whole file: questions 2 and 10 around its fields. Assumes nothing.
use Rattle.std.specs.Prelude.{◌≡◌, refl, ◌&&◌, List, ℕ, zero, suc, ◌≤◌, ◌<◌, length, leb, eqb, Option, Result, Ok, Err}
use Rattle.std.specs.Option.{unwrap_or}
use Rattle.std.proofs.Math.Path.{sym, ap}
use Rattle.std.proofs.Common.{◌∙◌, arith}
use borrow.Author.Tests.{ne_eqb}
use Rattle.rules.specs.Sizes.{max_file, max_boards}
use Rattle.rules.specs.Basics.{choose}
use Rattle.rules.specs.Fields.{Answer, refused, got, ask, after, number_of}
use Rattle.rules.specs.JobFile.{JobFile, complete, read_file}
use Rattle.laws.specs.Tests.{tests, by-choice}
use Rattle.laws.specs.Fields.{ask-yes, ask-no, number-refused}
use Rattle.laws.proofs.Refusals.{read-got}
use Rattle.refusals.specs.declared.Refusal.{Refusal}
use Rattle.refusals.specs.declared.Refusal.TheVariants.{LongFile, Incomplete}
use Rattle.refusals.specs.Refusals.{number, positive}
use Rattle.jobfile.specs.declared.Counts.{Counts}
use Rattle.jobfile.specs.Reading.{given, state_of, answer_of, complete_answer, Held, Same, Reads}
use Rattle.jobfile.specs.FieldByField.{all_fields}

-- ---- what a reading says

-- a refusal is the rules' refusal
pub reads-no : (bs : List ℕ) (q : Refusal) (o rows : List ℕ) → Reads bs (Err q) o rows → read_file bs ≡ refused (number q)
reads-no bs q o rows reads = number-refused (read_file bs) (number q) reads.number_is (λ z. omega (arith, positive q))

-- counts are those of the file that the rules read
pub reads-yes : (bs : List ℕ) (c : Counts) (o rows : List ℕ) → Reads bs (Ok c) o rows
    → (f : JobFile) × (read_file bs ≡ got f) × Held bs f (state_of c o rows)
reads-yes bs c o rows reads =
    let w = read-got bs (sym reads.number_is) in
    let h = reads.held w.0 w.1 in
    let e : h.0 ≡ c = cc in
    (w.0, w.1, rw e at h.2)

-- the most boards are eight where the file gives none
pub most-given : (sockets : Option ℕ) (b : ℕ) → sockets ≡ given b → unwrap_or sockets max_boards ≡ choose (eqb b 0) max_boards b
unfolding choose
most-given sockets zero e = rw e refl
most-given sockets (suc b) e = rw (e, ne_eqb (suc b) 0 (λ z. omega arith)) refl

-- ---- how it is known

-- counts, where question 10 says yes of them
abbrev counted_by : Counts → Result (Unit {0}) Refusal → Result Counts Refusal
counted_by c (Ok u) = Ok c
counted_by c (Err q) = Err q

-- what is answered where the fields answered r
abbrev pub asked : Result Counts Refusal → Result Counts Refusal
asked (Ok c) = counted_by c (complete_answer c)
asked (Err q) = Err q

-- a reading that was refused
reads-refused : (bs : List ℕ) (q : Refusal) (o rows : List ℕ) → read_file bs ≡ refused (number q) → Reads bs (Err q) o rows
unfolding number_of
reads-refused bs q o rows e = record { number_is = sym (ap number_of e); held = λ f h. absurd (let z : ◌≡◌ {A = ℕ} 0 1 = cc in omega arith) }

-- a file that is too long
pub too_long : (bs o rows : List ℕ) → max_file < length bs → Reads bs (Err LongFile) o rows
unfolding read_file
too_long bs o rows h = reads-refused bs LongFile o rows (ask-no (leb (length bs) max_file) 2 (after (all_fields bs) complete) (λ z. let w = simp tests at z in
    omega arith))

module _ (bs : List ℕ) (fits : length bs ≤ max_file) (o rows : List ℕ) where
  read_is : (x : Answer JobFile) → all_fields bs ≡ x → read_file bs ≡ after x complete
  unfolding read_file
  read_is x e = ask-yes (leb (length bs) max_file) 2 (after (all_fields bs) complete) (simp tests fits) ∙ ap (λ (y : Answer JobFile). after y complete) e

  -- a field was refused
  pub fields-refused : (q : Refusal) → Same bs (all_fields bs) (refused (number q)) → Reads bs (Err q) o rows
  unfolding Same after
  fields-refused q same = go (all_fields bs) refl same
    where
      go : (x : Answer JobFile) → all_fields bs ≡ x → Same bs x (refused (number q)) → Reads bs (Err q) o rows
      go (refused p) e s = reads-refused bs q o rows (read_is (refused p) e ∙ ap refused s)
      go (got f) e s = absurd s

  module _ (c : Counts) (same : Same bs (all_fields bs) (got (state_of c o rows))) where
    -- all fields were taken
    all_taken : (f : JobFile) × (read_file bs ≡ ask (leb 2 f.fields && leb 1 (length f.jobs)) 10 (got f)) × Held bs f (state_of c o rows)
    unfolding Same after complete
    all_taken = go (all_fields bs) refl same
      where
        go : (x : Answer JobFile) → all_fields bs ≡ x → Same bs x (got (state_of c o rows))
            → (f : JobFile) × (read_file bs ≡ ask (leb 2 f.fields && leb 1 (length f.jobs)) 10 (got f)) × Held bs f (state_of c o rows)
        go (refused p) e s = absurd s
        go (got f) e s = (f, read_is (got f) e, s)

    -- too few
    pub incomplete : (q : Refusal) → complete_answer c ≡ Err q → Reads bs (Err q) o rows
    unfolding complete_answer
    incomplete q e = by-choice (λ (r : Result (Unit {0}) Refusal). r ≡ Err q → Reads bs (Err q) o rows) (leb 2 c.fields && leb 1 c.jobs)
        (λ _ n. absurd (let z : ◌≡◌ {A = ℕ} 0 1 = cc in omega arith))
        (λ few n.
        let k : Incomplete ≡ q = cc in
        let w = all_taken in
        rw (← k) (reads-refused bs Incomplete o rows (w.1 ∙ ask-no (leb 2 w.0.fields && leb 1 (length w.0.jobs)) 10 (got w.0)
        (λ z. let h = simp tests at z in few (simp tests (omega (arith, h, w.2.fields-is), omega (arith, h, w.2.jobs-is))))))) e

    -- enough
    pub readable : complete_answer c ≡ Ok tt → Reads bs (Ok c) o rows
    unfolding complete_answer number_of
    readable e = by-choice (λ (r : Result (Unit {0}) Refusal). r ≡ Ok tt → Reads bs (Ok c) o rows) (leb 2 c.fields && leb 1 c.jobs)
        (λ enough _.
        let w = all_taken in
        let h = simp tests at enough in
        let read : read_file bs ≡ got w.0 = w.1 ∙ ask-yes (leb 2 w.0.fields && leb 1 (length w.0.jobs)) 10 (got w.0)
        (simp tests (omega (arith, h, w.2.fields-is), omega (arith, h, w.2.jobs-is))) in
        record { number_is = sym (ap number_of read); held = λ f k. let p : w.0 ≡ f = cc in (c, refl, rw (← p) w.2) })
        (λ _ n. absurd (let z : ◌≡◌ {A = ℕ} 0 1 = cc in omega arith)) e

  -- a file of which all fields were asked: their answer, and question 10 where they were taken
  pub all_asked : (r : Result Counts Refusal) → Same bs (all_fields bs) (answer_of r o rows) → Reads bs (asked r) o rows
  all_asked (Err q) same = fields-refused q same
  all_asked (Ok c) same = go (complete_answer c) refl
    where
      go : (x : Result (Unit {0}) Refusal) → complete_answer c ≡ x → Reads bs (counted_by c x) o rows
      go (Err q) e = incomplete c same q e
      go (Ok u) e = readable c same e
