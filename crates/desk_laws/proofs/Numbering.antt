-- Each step keeps that the deviations of each project are numbered from 1.
use Rattle.std.proofs.lemmas.List.{length-map}
use Rattle.std.proofs.Common.{◌≡◌, ◌∙◌, ◌+◌, ◌≤◌, ◌<◌, ℕ, ◌==◌, zero, suc, Bool, true, false, ◌&&◌, ◌||◌, cond, List, [], ◌∷◌, ◌++◌, map, length, Option, Some, None, refl, sym, ap, subst, arith}
use Rattle.std.specs.Prelude.{filter}
use Rattle.std.specs.List.{find, list_any, range_with_len}
use Rattle.std.specs.Option.{option_map}
use Rattle.std.specs.Str.{bytes_eq}
use Rattle.std.proofs.lemmas.Bool.{eq-eqb, eqb-true}
use Rattle.std.proofs.lemmas.List.{append-nil}
use Rattle.std.proofs.lemmas.List.FromFn.{length-range_with_len}
use Rattle.misra_base.specs.declared.report.Report.{Report}
use Rattle.misra_base.specs.declared.finding.Finding.{Finding}
use Rattle.misra_base.specs.declared.deviation.Deviation.{Deviation}
use Rattle.misra_base.specs.declared.deviation.Status.TheVariants as statuses
use Rattle.misra_base.specs.declared.category.Plan.{Plan}
use Rattle.desk_tables.specs.declared.change.Write.TheVariants as writes
use Rattle.desk_tables.specs.declared.command.Command.{Command}
use Rattle.desk_tables.specs.declared.command.Command.TheVariants as commands
use Rattle.desk_tables.specs.declared.rows.ProjectRow.{ProjectRow}
use Rattle.desk_tables.specs.declared.rows.DeviationRow.{DeviationRow}
use Rattle.desk_tables.specs.declared.rows.KeptRow.{KeptRow}
use Rattle.desk_tables.specs.Tables.{Tables, after_keeping, deviations_of, is_deviation, is_deviation_of, no_tables, project_named, put, put_deviation, put_plan, put_revision, rows_of}
use Rattle.desk_core.specs.declared.caller.Caller.{Caller}
use Rattle.desk_core.specs.Callers.{name_of}
use Rattle.desk_core.specs.Rows.{approved_by, project_of, row_for, with_status}
use Rattle.desk_core.specs.View.{deviation_with, view_of}
use Rattle.desk_laws.specs.Numbers.{AreNumbered, DeviationsAreNumbered}
use Rattle.desk_laws.specs.Runs.{Request, step_of, tables_after}
use Rattle.desk_laws.proofs.Keeping.{AfterEffect, step_keeps}
use Rattle.desk_laws.proofs.Sorting.{any_sorted, length_sorted}
use Rattle.desk_laws.proofs.Putting.{and_left, and_right, or_right, same_name}

abbrev ids : List ℕ → List DeviationRow → List ℕ
ids project rows = map (λ d. d.id) (map (λ r. r.deviation) (filter (is_deviation_of project) rows))

-- ---- the ids after a deviation is put

one_row : (b : Bool) (row : DeviationRow) → map (λ d. d.id) (map (λ r. r.deviation) (cond b (row ∷ []) [])) ≡ [] ++ cond b (row.deviation.id ∷ []) []
one_row true row = refl
one_row false row = refl

same_place : (b : Bool) (row r : DeviationRow) (rest : List DeviationRow) → row.deviation.id ≡ r.deviation.id
    → map (λ d. d.id) (map (λ r. r.deviation) (cond b (row ∷ rest) rest)) ≡ map (λ d. d.id) (map (λ r. r.deviation) (cond b (r ∷ rest) rest))
same_place true row r rest e = ap (λ i. i ∷ map (λ d. d.id) (map (λ r. r.deviation) rest)) e
same_place false row r rest e = refl

cons_any : (a : ℕ) (any : Bool) (xs ys : List ℕ) → a ∷ cond any xs (xs ++ ys) ≡ cond any (a ∷ xs) ((a ∷ xs) ++ ys)
cons_any a true xs ys = refl
cons_any a false xs ys = refl

later_place : (b any : Bool) (r : DeviationRow) (put rest : List DeviationRow) (ys : List ℕ)
    → map (λ d. d.id) (map (λ r. r.deviation) put)
    ≡ cond any (map (λ d. d.id) (map (λ r. r.deviation) rest)) (map (λ d. d.id) (map (λ r. r.deviation) rest) ++ ys)
    → map (λ d. d.id) (map (λ r. r.deviation) (cond b (r ∷ put) put))
    ≡ cond any (map (λ d. d.id) (map (λ r. r.deviation) (cond b (r ∷ rest) rest))) (map (λ d. d.id) (map (λ r. r.deviation) (cond b (r ∷ rest) rest)) ++ ys)
later_place true any r put rest ys e = ap (λ l. r.deviation.id ∷ l) e ∙ cons_any r.deviation.id any (map (λ d. d.id) (map (λ r. r.deviation) rest)) ys
later_place false any r put rest ys e = e

abbrev put_ids : List ℕ → DeviationRow → Bool → List DeviationRow → List ℕ
put_ids q row any rows = cond any (ids q rows) (ids q rows ++ cond (is_deviation_of q row) (row.deviation.id ∷ []) [])

ids_step : (q : List ℕ) (row r : DeviationRow) (rows : List DeviationRow) (k : Bool) → is_deviation row.project row.deviation.id r ≡ k
    → ids q (put (is_deviation row.project row.deviation.id) row rows) ≡ put_ids q row (list_any (is_deviation row.project row.deviation.id) rows) rows
    → ids q (cond k (row ∷ rows) (r ∷ put (is_deviation row.project row.deviation.id) row rows))
    ≡ put_ids q row (k || list_any (is_deviation row.project row.deviation.id) rows) (r ∷ rows)
ids_step q row r rows true e later =
    let project : r.project ≡ row.project = same_name r.project row.project (and_left (bytes_eq r.project row.project) (r.deviation.id == row.deviation.id) e) in
    let id : r.deviation.id ≡ row.deviation.id = eqb-true r.deviation.id row.deviation.id (and_right (bytes_eq r.project row.project) (r.deviation.id == row.deviation.id) e) in
    ap (λ b. map (λ d. d.id) (map (λ r. r.deviation) (cond b (row ∷ filter (is_deviation_of q) rows) (filter (is_deviation_of q) rows)))) (ap (λ p. bytes_eq p q) (sym project))
    ∙ same_place (is_deviation_of q r) row r (filter (is_deviation_of q) rows) (sym id)
ids_step q row r rows false e later =
    later_place (is_deviation_of q r) (list_any (is_deviation row.project row.deviation.id) rows) r
    (filter (is_deviation_of q) (put (is_deviation row.project row.deviation.id) row rows)) (filter (is_deviation_of q) rows)
    (cond (is_deviation_of q row) (row.deviation.id ∷ []) []) later

ids_put : (q : List ℕ) (row : DeviationRow) (rows : List DeviationRow)
    → ids q (put (is_deviation row.project row.deviation.id) row rows) ≡ put_ids q row (list_any (is_deviation row.project row.deviation.id) rows) rows
ids_put q row [] = one_row (is_deviation_of q row) row
ids_put q row (r ∷ rows) = ids_step q row r rows (is_deviation row.project row.deviation.id r) refl (ids_put q row rows)

-- a row of the project and the id is there exactly if the id is among the project's
any_step : (b same any : Bool) (r : DeviationRow) (rest : List DeviationRow) (id : ℕ) → (r.deviation.id == id) ≡ same
    → any ≡ list_any (λ i. i == id) (map (λ d. d.id) (map (λ r. r.deviation) rest))
    → ((b && same) || any) ≡ list_any (λ i. i == id) (map (λ d. d.id) (map (λ r. r.deviation) (cond b (r ∷ rest) rest)))
any_step true same any r rest id e later = rw e (ap (λ x. same || x) later)
any_step false same any r rest id e later = later

any_id : (project : List ℕ) (id : ℕ) (rows : List DeviationRow) → list_any (is_deviation project id) rows ≡ list_any (λ i. i == id) (ids project rows)
any_id project id [] = refl
any_id project id (r ∷ rows) =
    any_step (is_deviation_of project r) (r.deviation.id == id) (list_any (is_deviation project id) rows) r (filter (is_deviation_of project) rows) id refl (any_id project id rows)

-- ---- numbers

not_same : (a id : ℕ) (b : Bool) → (a == id) ≡ b → a < id → b ≡ false
not_same a id true e l = let same : a ≡ id = eqb-true a id e in absurd (omega (arith, same, l))
not_same a id false e l = refl

beyond : (a n id : ℕ) → a + n ≤ id → list_any (λ i. i == id) (range_with_len a n) ≡ false
beyond a zero id l = refl
beyond a (suc n) id l =
    let differs : (a == id) ≡ false = not_same a id (a == id) refl (omega (arith, l)) in
    rw differs (beyond (a + 1) n id (omega (arith, l)))

range_more : (a n : ℕ) → range_with_len a n ++ (a + n) ∷ [] ≡ range_with_len a (suc n)
range_more a zero = let e : a + 0 ≡ a = omega arith in rw e refl
range_more a (suc n) =
    let e : a + suc n ≡ a + 1 + n = omega arith in
    ap (λ l. a ∷ l) (ap (λ k. range_with_len (a + 1) n ++ k ∷ []) e ∙ range_more (a + 1) n)

-- a list of ids that are n numbers from 1 has the length n
numbered_by : (ds : List Deviation) (n : ℕ) → map (λ d. d.id) ds ≡ range_with_len 1 n → map (λ d. d.id) ds ≡ range_with_len 1 (length ds)
numbered_by ds n e =
    let size : n ≡ length ds = sym (length-range_with_len 1 n) ∙ ap length (sym e) ∙ length-map ds (λ d. d.id) in
    e ∙ ap (range_with_len 1) size

-- ---- a deviation is put

-- one whose id is there
replaced : (t : Tables) (project : List ℕ) (d : Deviation) → list_any (λ i. i == d.id) (ids project t.deviations) ≡ true
    → AreNumbered t → AreNumbered (put_deviation project d t)
replaced t project d there h q =
    let row : DeviationRow = record { project = project; deviation = d } in
    let any : list_any (is_deviation project d.id) t.deviations ≡ true = any_id project d.id t.deviations ∙ there in
    let same : ids q (put (is_deviation project d.id) row t.deviations) ≡ ids q t.deviations =
    ids_put q row t.deviations ∙ ap (λ b. put_ids q row b t.deviations) any in
    numbered_by (rows_of q (put_deviation project d t)) (length (rows_of q t)) (same ∙ h q)

added_by : (t : Tables) (project q : List ℕ) (b : Bool) (n : ℕ) → bytes_eq project q ≡ b → n ≡ length (rows_of project t)
    → AreNumbered t
    → (m : ℕ) × (ids q t.deviations ++ cond b ((n + 1) ∷ []) [] ≡ range_with_len 1 m)
added_by t project q true n e size h =
    let here = subst (λ p. n ≡ length (rows_of p t)) (same_name project q e) size in
    let last : n + 1 ≡ 1 + n = omega arith in
    (suc n, ap (λ l. l ++ (n + 1) ∷ []) (h q ∙ ap (range_with_len 1) (sym here)) ∙ ap (λ k. range_with_len 1 n ++ k ∷ []) last ∙ range_more 1 n)
added_by t project q false n e size h = (length (rows_of q t), append-nil (ids q t.deviations) ∙ h q)

-- a new one, whose id is one above their number
added : (t : Tables) (project : List ℕ) (d : Deviation) → d.id ≡ length (rows_of project t) + 1 → AreNumbered t → AreNumbered (put_deviation project d t)
added t project d e h q =
    let row : DeviationRow = record { project = project; deviation = d } in
    let n = length (rows_of project t) in
    let fresh : list_any (λ i. i == d.id) (ids project t.deviations) ≡ false =
    ap (list_any (λ i. i == d.id)) (h project) ∙ beyond 1 n d.id (omega (arith, e)) in
    let none : list_any (is_deviation project d.id) t.deviations ≡ false = any_id project d.id t.deviations ∙ fresh in
    let after : ids q (put (is_deviation project d.id) row t.deviations) ≡ ids q t.deviations ++ cond (bytes_eq project q) (d.id ∷ []) [] =
    ids_put q row t.deviations ∙ ap (λ b. put_ids q row b t.deviations) none in
    let numbers = added_by t project q (bytes_eq project q) n refl refl h in
    numbered_by (rows_of q (put_deviation project d t)) numbers.0
    (after ∙ ap (λ k. ids q t.deviations ++ cond (bytes_eq project q) (k ∷ []) []) e ∙ numbers.1)

-- ---- each command

found_step : (p : Deviation → Bool) (x d : Deviation) (xs : List Deviation) (b : Bool) → p x ≡ b
    → (find p xs ≡ Some d → list_any (λ i. i == d.id) (map (λ y. y.id) xs) ≡ true)
    → cond b (Some x) (find p xs) ≡ Some d → ((x.id == d.id) || list_any (λ i. i == d.id) (map (λ y. y.id) xs)) ≡ true
found_step p x d xs true e later f =
    let same : x ≡ d = cc in
    let id : (x.id == d.id) ≡ true = eq-eqb x.id d.id (ap (λ y. y.id) same) in
    rw id refl
found_step p x d xs false e later f = or_right (x.id == d.id) (list_any (λ i. i == d.id) (map (λ y. y.id) xs)) (later f)

-- what is found has its id among the ids
found_id : (p : Deviation → Bool) (xs : List Deviation) (d : Deviation) → find p xs ≡ Some d → list_any (λ i. i == d.id) (map (λ y. y.id) xs) ≡ true
found_id p [] d f = cc
found_id p (x ∷ xs) d f = found_step p x d xs (p x) refl (found_id p xs d) f

set_ok : (t : Tables) (project : List ℕ) (id : ℕ) (change : Deviation → Deviation) → ((d : Deviation) → (change d).id ≡ d.id)
    → (found : Option Deviation) → find (λ d. d.id == id) (deviations_of project t) ≡ found → AreNumbered t
    → AfterEffect AreNumbered (option_map (λ d. writes.SetDeviation project (change d)) found) t
set_ok t project id change keeps None f h = tt
set_ok t project id change keeps (Some d) f h =
    let there = sym (any_sorted (λ i. i == d.id) (rows_of project t)) ∙ found_id (λ d. d.id == id) (deviations_of project t) d f in
    replaced t project (change d) (subst (λ n. list_any (λ i. i == n) (ids project t.deviations) ≡ true) (sym (keeps d)) there) h

revision_ok : (t : Tables) (found : Option ProjectRow) (project : List ℕ) (number : ℕ) (findings : List Finding) → AreNumbered t
    → AreNumbered (put_revision found project number findings t)
revision_ok t None project number findings h = h
revision_ok t (Some row) project number findings h = h

plan_ok : (t : Tables) (found : Option ProjectRow) (project : List ℕ) (plan : Plan) → AreNumbered t → AreNumbered (put_plan found project plan t)
plan_ok t None project plan h = h
plan_ok t (Some row) project plan h = h

command_ok : (t : Tables) (caller : Caller) (command : Command) (report : Option Report) → AreNumbered t
    → AfterEffect AreNumbered (row_for (view_of (name_of caller) (project_of command) t) caller command report).effect t
command_ok t caller (commands.MakeProject name members) report h = h
command_ok t caller (commands.Submit project length) report h = revision_ok t (project_named project t) project _ _ h
command_ok t caller (commands.Raise project guideline function object reason permit) report h =
    added t project _ (ap (λ n. n + 1) (length_sorted (rows_of project t))) h
command_ok t caller (commands.Approve project id) report h =
    set_ok t project id (approved_by caller) (λ d. refl) (deviation_with id (view_of (name_of caller) project t)) refl h
command_ok t caller (commands.Reject project id) report h =
    set_ok t project id (with_status statuses.Rejected) (λ d. refl) (deviation_with id (view_of (name_of caller) project t)) refl h
command_ok t caller (commands.Withdraw project id) report h =
    set_ok t project id (with_status statuses.Withdrawn) (λ d. refl) (deviation_with id (view_of (name_of caller) project t)) refl h
command_ok t caller (commands.AddPermit name guideline reason) report h = h
command_ok t caller (commands.Recategorise project guideline category) report h = plan_ok t (project_named project t) project _ h
command_ok t caller (commands.ApplyPlan project entries) report h = plan_ok t (project_named project t) project _ h
command_ok t caller (commands.ReadSummary project) report h = tt
command_ok t caller (commands.ReadFindings project) report h = tt
command_ok t caller (commands.ReadClaim project) report h = tt

-- ---- each run

leaves : (kept : Option KeptRow) (t : Tables) → AreNumbered t → AreNumbered (after_keeping kept t)
leaves None t h = h
leaves (Some row) t h = h

run_ok : (t : Tables) (requests : List Request) → AreNumbered t → AreNumbered (tables_after t requests)
run_ok t [] h = h
run_ok t (r ∷ requests) h =
    run_ok (step_of t r) requests (step_keeps AreNumbered t r.caller r.id r.command r.report leaves (λ none. command_ok t r.caller r.command r.report h) h)

pub deviations_are_numbered : DeviationsAreNumbered
deviations_are_numbered requests = run_ok no_tables requests (λ project. refl)
