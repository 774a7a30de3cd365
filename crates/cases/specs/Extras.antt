-- Extra jobs behind those of a gate (document 02, request 12), by computing: "boards may move"; two groups that are planned can be too wide together; and
-- starts move where a term is left: with two boards, or with extras that need more slots than the gate. Assumes nothing.
-- More of what holds: proofs/Extras.antt.
use Rattle.std.specs.Prelude.{◌≡◌, refl, List, [], ◌∷◌, ◌++◌, ℕ, length, replicate, T}
use Rattle.rules.specs.Basics.{range}
use Rattle.rules.specs.Fields.{refused, got}
use Rattle.rules.specs.JobFile.{JobFile, most_boards, read_file}
use Rattle.laws.specs.JobFile.{needs-in, readable}
use Rattle.laws.specs.Extras.{behind, union-append}
use Rattle.laws.specs.ExtraFiles.{Extended, Says}
use Rattle.cases.specs.Case.{Case, file_of, Holds}
use Rattle.cases.specs.Searched.{bytesb, bytes-are}
use Rattle.cases.specs.Computed.{computed, whole_case}
use Rattle.cases.specs.Cases.{planned, plain}

-- ---- three files

-- the cases of a gate, of extra jobs and of both, whose files keep the terms of `starts-kept` but for the boards, of which there are c, and for the slots of
-- the extras
pub record Example (c : ℕ) (gate extras whole : Case) : Type 0 where
  pub gate-file : JobFile
  pub extras-file : JobFile
  pub whole-file : JobFile
  pub gate-says : Says gate.file gate-file
  pub extras-says : Says extras.file extras-file
  pub whole_says : Says whole.file whole-file
  pub terms : Extended c gate-file extras-file whole-file
  pub gate-holds : Holds gate
  pub extras-holds : Holds extras
  pub whole-holds : Holds whole

-- what a file says, by computing
says : {file : List ℕ} {f : JobFile} → T (bytesb file) → read_file file ≡ got f → Says file f
says {file} b r = record { bytes = bytes-are file b; read = r }

-- what a file of k fields says that has the jobs and needs of g, and behind them those of e
whole_of : ℕ → JobFile → JobFile → JobFile
whole_of k g e = record {
  fields = k;
  limit = g.limit;
  sockets = g.sockets;
  jobs = g.jobs ++ e.jobs;
  needs = g.needs ++ behind (length g.jobs) e.needs;
}

-- it keeps the terms
example : {c : ℕ} {gate extras whole : Case} {g e : JobFile} (k : ℕ) → e.limit ≡ g.limit → most_boards g ≡ c → most_boards e ≡ c
    → Says gate.file g → Says extras.file e → Says whole.file (whole_of k g e) → Holds gate → Holds extras → Holds whole → Example c gate extras whole
unfolding whole_of most_boards
example {gate = gate} {g = g} {e = e} k l p q gate-says extras-says whole_says gate-holds extras-holds whole-holds = record {
  gate-file = g;
  extras-file = e;
  whole-file = whole_of k g e;
  gate-says = gate-says;
  extras-says = extras-says;
  whole_says = whole_says;
  terms = record {
    jobs = refl;
    needs = union-append (length g.jobs) g.needs e.needs (needs-in g (readable gate.file gate-says.bytes g gate-says.read));
    gate-limit = refl;
    extras-limit = l;
    gate-boards = p;
    extras-boards = q;
    whole-boards = p;
  };
  gate-holds = gate-holds;
  extras-holds = extras-holds;
  whole-holds = whole-holds;
}

-- ---- within the terms

-- "Boards may move": with a chain of three beside it, job 4 of a gate with the needs 1-2, 2-3, 1-4 goes from board 2 to board 3
pub boards-move : Example 8
    (plain (file_of 4 ((1, 2) ∷ (2, 3) ∷ (1, 4) ∷ []) 3) (planned 3 2 (0 ∷ 1 ∷ 2 ∷ 2 ∷ []) (1 ∷ 1 ∷ 1 ∷ 2 ∷ [])))
    (plain (file_of 3 ((1, 2) ∷ (2, 3) ∷ []) 3) (planned 3 1 (0 ∷ 1 ∷ 2 ∷ []) (1 ∷ 1 ∷ 1 ∷ [])))
    (plain (file_of 7 ((1, 2) ∷ (2, 3) ∷ (1, 4) ∷ (5, 6) ∷ (6, 7) ∷ []) 3) (planned 3 3 (0 ∷ 1 ∷ 2 ∷ 2 ∷ 0 ∷ 1 ∷ 2 ∷ []) (1 ∷ 1 ∷ 1 ∷ 3 ∷ 2 ∷ 2 ∷ 2 ∷ [])))
unfolding whole_case whole_of behind
boards-move =
    example 14 refl refl refl
    (says tt refl) (says tt refl) (says tt refl) (computed tt refl tt) (computed tt refl tt) (computed tt refl tt)

-- two groups that are planned can be too wide together: eight jobs without needs and one more, limit 1
pub too-wide-together : Example 8
    (plain (file_of 8 [] 1) (planned 1 8 (replicate 8 0) (range 8 1))) (plain (file_of 1 [] 1) (planned 1 1 (0 ∷ []) (1 ∷ [])))
    (plain (file_of 9 [] 1) (refused 12))
unfolding whole_case whole_of behind
too-wide-together =
    example 11 refl refl refl
    (says tt refl) (says tt refl) (says tt refl) (computed tt refl tt) (computed tt refl tt) (computed tt refl tt)

-- ---- beyond the terms

-- extras that need a slot more than the gate leave it room to take a lower job first: the needs 1-2, 1-3, 3-4, and a chain of four
pub longer-extras-move-starts : Example 8
    (plain (file_of 4 ((1, 2) ∷ (1, 3) ∷ (3, 4) ∷ []) 4) (planned 3 2 (0 ∷ 2 ∷ 1 ∷ 2 ∷ []) (1 ∷ 2 ∷ 1 ∷ 1 ∷ [])))
    (plain (file_of 4 ((1, 2) ∷ (2, 3) ∷ (3, 4) ∷ []) 4) (planned 4 1 (0 ∷ 1 ∷ 2 ∷ 3 ∷ []) (1 ∷ 1 ∷ 1 ∷ 1 ∷ [])))
    (plain (file_of 8 ((1, 2) ∷ (1, 3) ∷ (3, 4) ∷ (5, 6) ∷ (6, 7) ∷ (7, 8) ∷ []) 4)
    (planned 4 2 (0 ∷ 1 ∷ 2 ∷ 3 ∷ 0 ∷ 1 ∷ 2 ∷ 3 ∷ []) (1 ∷ 1 ∷ 1 ∷ 1 ∷ 2 ∷ 2 ∷ 2 ∷ 2 ∷ [])))
unfolding whole_case whole_of behind
longer-extras-move-starts =
    example 16 refl refl refl
    (says tt refl) (says tt refl) (says tt refl) (computed tt refl tt) (computed tt refl tt) (computed tt refl tt)

-- "CR 12 is kept where tag 9 is absent": the needs 1-3, 2-3 and a chain of three, all with two boards
abbrev pub two_givers : List ℕ
two_givers = file_of 3 ((1, 3) ∷ (2, 3) ∷ []) 3 ++ 9 ∷ 1 ∷ 0 ∷ 2 ∷ []

abbrev pub chain_of_three : List ℕ
chain_of_three = file_of 3 ((1, 2) ∷ (2, 3) ∷ []) 3 ++ 9 ∷ 1 ∷ 0 ∷ 2 ∷ []

abbrev pub chain_behind : List ℕ
chain_behind = file_of 6 ((1, 3) ∷ (2, 3) ∷ (4, 5) ∷ (5, 6) ∷ []) 3 ++ 9 ∷ 1 ∷ 0 ∷ 2 ∷ []

-- job 2 starts a slot later where the chain runs beside it, in a table that is as short
pub two-boards-move-starts : Example 2
    (plain two_givers (planned 3 2 (0 ∷ 0 ∷ 2 ∷ []) (1 ∷ 2 ∷ 1 ∷ []))) (plain chain_of_three (planned 3 1 (0 ∷ 1 ∷ 2 ∷ []) (1 ∷ 1 ∷ 1 ∷ [])))
    (plain chain_behind (planned 3 2 (0 ∷ 1 ∷ 2 ∷ 0 ∷ 1 ∷ 2 ∷ []) (1 ∷ 1 ∷ 1 ∷ 2 ∷ 2 ∷ 2 ∷ [])))
unfolding whole_case whole_of behind
two-boards-move-starts =
    example 13 refl refl refl
    (says tt refl) (says tt refl) (says tt refl) (computed tt refl tt) (computed tt refl tt) (computed tt refl tt)
