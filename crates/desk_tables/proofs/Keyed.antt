-- A row that is put in the place of the row with its key leaves the keys different.
use Rattle.std.proofs.Common.{◌≡◌, ℕ, Bool, true, false, not, ◌&&◌, ◌||◌, ◌==◌, cond, List, [], ◌∷◌, Option, Some, None, refl, ap, sym, subst}
use Rattle.std.specs.Bool.{Decides}
use Rattle.std.specs.List.{find, list_any}
use Rattle.std.specs.Str.{bytes_eq}
use Rattle.std.proofs.lemmas.Bool.Decides.{Decides-eqb}
use Rattle.std.proofs.lemmas.Slice.Eq.{bytes_eq-Decides}
use Rattle.misra_base.specs.declared.permit.Permit.{Permit}
use Rattle.desk_tables.specs.declared.rows.ProjectRow.{ProjectRow}
use Rattle.desk_tables.specs.declared.rows.FoundRow.{FoundRow}
use Rattle.desk_tables.specs.declared.rows.DeviationRow.{DeviationRow}
use Rattle.desk_tables.specs.declared.rows.KeptRow.{KeptRow}
use Rattle.misra_base.specs.declared.deviation.Deviation.{Deviation}
use Rattle.misra_base.specs.declared.finding.Finding.{Finding}
use Rattle.misra_base.specs.declared.category.Plan.{Plan}
use Rattle.desk_tables.specs.declared.change.Change.{Change}
use Rattle.desk_tables.specs.declared.change.Write.{Write}
use Rattle.desk_tables.specs.declared.change.Write.TheVariants as writes
use Rattle.desk_tables.specs.Keys.{IsKeyed, are_keyed}
use Rattle.desk_tables.specs.Tables.{Tables, after_change, after_keeping, after_write, is_deviation, is_found_in, is_named, is_permit, put, put_plan, put_revision, project_named, put_deviation, same_request}

-- ---- tests

and_left : (a b : Bool) → (a && b) ≡ true → a ≡ true
and_left true b e = refl
and_left false b e = e

and_right : (a b : Bool) → (a && b) ≡ true → b ≡ true
and_right true b e = e
and_right false b e = cc

and_both : (a b : Bool) → a ≡ true → b ≡ true → (a && b) ≡ true
and_both true b e f = f
and_both false b e f = e

or_left : (a b : Bool) → (a || b) ≡ false → a ≡ false
or_left true b e = e
or_left false b e = refl

or_right : (a b : Bool) → (a || b) ≡ false → b ≡ false
or_right true b e = cc
or_right false b e = e

or_none : (a b : Bool) → a ≡ false → b ≡ false → (a || b) ≡ false
or_none true b e f = e
or_none false b e f = f

none_of : (b : Bool) → not b ≡ true → b ≡ false
none_of true e = cc
none_of false e = refl

not_none : (b : Bool) → b ≡ false → not b ≡ true
not_none true e = cc
not_none false e = refl

fails_back : (a b : Bool) → a ≡ false → (b ≡ true → a ≡ true) → b ≡ false
fails_back a true e back = let t : a ≡ true = back refl in cc
fails_back a false e back = refl

-- ---- one row more

none_step : {R : Type 0} (p : R → Bool) (row r : R) (rows rest : List R) (b : Bool) → p row ≡ false
    → (p r || list_any p rows) ≡ false → list_any p rest ≡ false → list_any p (cond b (row ∷ rows) (r ∷ rest)) ≡ false
none_step p row r rows rest true own none later = or_none (p row) (list_any p rows) own (or_right (p r) (list_any p rows) none)
none_step p row r rows rest false own none later = or_none (p r) (list_any p rest) (or_left (p r) (list_any p rows) none) later

none_put : {R : Type 0} (p q : R → Bool) (row : R) → p row ≡ false → (rows : List R) → list_any p rows ≡ false → list_any p (put q row rows) ≡ false
none_put p q row own [] none = or_none (p row) false own refl
none_put p q row own (r ∷ rows) none =
    none_step p row r rows (put q row rows) (q r) own none (none_put p q row own rows (or_right (p r) (list_any p rows) none))

-- ---- keys

-- the test decides whether a row has a key
pub record IsKey {R K : Type 0} (key : R → K) (has_key : K → R → Bool) : Type 0 where
  pub decides : (k : K) (r : R) → Decides (has_key k r) (key r ≡ k)

module _ {R K : Type 0} (key : R → K) (has_key : K → R → Bool) (is : IsKey key has_key) where
  other_way : (a b : R) → has_key (key a) b ≡ false → has_key (key b) a ≡ false
  other_way a b e = fails_back (has_key (key a) b) (has_key (key b) a) e (λ f. (is.decides (key a) b).1 (sym ((is.decides (key b) a).0 f)))

  keyed_step : (row r : R) (rows rest : List R) (b : Bool) → has_key (key row) r ≡ b
      → (not (list_any (has_key (key r)) rows) && are_keyed (λ x y. has_key (key x) y) rows) ≡ true
      → rest ≡ put (has_key (key row)) row rows → are_keyed (λ x y. has_key (key x) y) rest ≡ true
      → are_keyed (λ x y. has_key (key x) y) (cond b (row ∷ rows) (r ∷ rest)) ≡ true
  keyed_step row r rows rest true same keyed put_is later =
      subst (λ k. (not (list_any (has_key k) rows) && are_keyed (λ x y. has_key (key x) y) rows) ≡ true) ((is.decides (key row) r).0 same) keyed
  keyed_step row r rows rest false other keyed put_is later =
      let none : list_any (has_key (key r)) (put (has_key (key row)) row rows) ≡ false =
      none_put (has_key (key r)) (has_key (key row)) row (other_way row r other) rows (none_of (list_any (has_key (key r)) rows) (and_left (not (list_any (has_key (key r)) rows)) (are_keyed (λ x y. has_key (key x) y) rows) keyed)) in
      and_both (not (list_any (has_key (key r)) rest)) (are_keyed (λ x y. has_key (key x) y) rest)
      (not_none (list_any (has_key (key r)) rest) (subst (λ l. list_any (has_key (key r)) l ≡ false) (sym put_is) none)) later

  keyed_put : (row : R) (rows : List R) → are_keyed (λ x y. has_key (key x) y) rows ≡ true
      → are_keyed (λ x y. has_key (key x) y) (put (has_key (key row)) row rows) ≡ true
  keyed_put row [] keyed = refl
  keyed_put row (r ∷ rows) keyed =
      keyed_step row r rows (put (has_key (key row)) row rows) (has_key (key row) r) refl keyed refl
      (keyed_put row rows (and_right (not (list_any (has_key (key r)) rows)) (are_keyed (λ x y. has_key (key x) y) rows) keyed))

-- ---- the keys of the tables

name_is_key : IsKey (λ (r : ProjectRow). r.name) is_named
name_is_key = record { decides = λ k r. bytes_eq-Decides r.name k }

project_is_key : IsKey (λ (r : FoundRow). r.project) is_found_in
project_is_key = record { decides = λ k r. bytes_eq-Decides r.project k }

permit_is_key : IsKey (λ (r : Permit). r.name) is_permit
permit_is_key = record { decides = λ k r. bytes_eq-Decides r.name k }

both_decide : {A B : Type 0} (p q : Bool) (a c : A) (b d : B) → Decides p (a ≡ c) → Decides q (b ≡ d) → Decides (p && q) (◌≡◌ {A = A × B} (a, b) (c, d))
both_decide p q a c b d left right = (
  λ e. λ i. (left.0 (and_left p q e) i, right.0 (and_right p q e) i),
  λ e. and_both p q (left.1 (ap (λ x. x.0) e)) (right.1 (ap (λ x. x.1) e)),
)

id_is_key : IsKey {K = List ℕ × ℕ} (λ (r : DeviationRow). (r.project, r.deviation.id)) (λ k r. is_deviation k.0 k.1 r)
id_is_key = record { decides = λ k r. both_decide (bytes_eq r.project k.0) (r.deviation.id == k.1) r.project k.0 r.deviation.id k.1 (bytes_eq-Decides r.project k.0) (Decides-eqb r.deviation.id k.1) }

request_is_key : IsKey {K = List ℕ × List ℕ} (λ (r : KeptRow). (r.caller, r.request)) (λ k r. bytes_eq r.caller k.0 && bytes_eq r.request k.1)
request_is_key = record { decides = λ k r. both_decide (bytes_eq r.caller k.0) (bytes_eq r.request k.1) r.caller k.0 r.request k.1 (bytes_eq-Decides r.caller k.0) (bytes_eq-Decides r.request k.1) }

pub keyed_projects : (row : ProjectRow) (rows : List ProjectRow) → are_keyed (λ a b. is_named a.name b) rows ≡ true
    → are_keyed (λ a b. is_named a.name b) (put (is_named row.name) row rows) ≡ true
keyed_projects = keyed_put (λ r. r.name) is_named name_is_key

pub keyed_findings : (row : FoundRow) (rows : List FoundRow) → are_keyed (λ a b. is_found_in a.project b) rows ≡ true
    → are_keyed (λ a b. is_found_in a.project b) (put (is_found_in row.project) row rows) ≡ true
keyed_findings = keyed_put (λ r. r.project) is_found_in project_is_key

pub keyed_deviations : (row : DeviationRow) (rows : List DeviationRow) → are_keyed (λ a b. is_deviation a.project a.deviation.id b) rows ≡ true
    → are_keyed (λ a b. is_deviation a.project a.deviation.id b) (put (is_deviation row.project row.deviation.id) row rows) ≡ true
keyed_deviations = keyed_put (λ r. (r.project, r.deviation.id)) (λ k r. is_deviation k.0 k.1 r) id_is_key

pub keyed_permits : (row : Permit) (rows : List Permit) → are_keyed (λ a b. is_permit a.name b) rows ≡ true
    → are_keyed (λ a b. is_permit a.name b) (put (is_permit row.name) row rows) ≡ true
keyed_permits = keyed_put (λ r. r.name) is_permit permit_is_key

pub keyed_kept : (row : KeptRow) (rows : List KeptRow) → are_keyed same_request rows ≡ true
    → are_keyed same_request (put (same_request row) row rows) ≡ true
keyed_kept = keyed_put (λ r. (r.caller, r.request)) (λ k r. bytes_eq r.caller k.0 && bytes_eq r.request k.1) request_is_key

-- ---- the tables

-- each list by itself
record Lists (t : Tables) : Type 0 where
  projects : are_keyed (λ a b. is_named a.name b) t.projects ≡ true
  findings : are_keyed (λ a b. is_found_in a.project b) t.findings ≡ true
  deviations : are_keyed (λ a b. is_deviation a.project a.deviation.id b) t.deviations ≡ true
  permits : are_keyed (λ a b. is_permit a.name b) t.permits ≡ true
  kept : are_keyed same_request t.kept ≡ true

five : (a b c d e : Bool) → (a && b && c && d && e) ≡ true → (a ≡ true) × (b ≡ true) × (c ≡ true) × (d ≡ true) × (e ≡ true)
five true true true true true h = (refl, refl, refl, refl, refl)
five true true true true false h = (cc, cc, cc, cc, cc)
five true true true false e h = (cc, cc, cc, cc, cc)
five true true false d e h = (cc, cc, cc, cc, cc)
five true false c d e h = (cc, cc, cc, cc, cc)
five false b c d e h = (cc, cc, cc, cc, cc)

lists_of : (t : Tables) → IsKeyed t → Lists t
lists_of t h =
    let f = five (are_keyed (λ a b. is_named a.name b) t.projects) (are_keyed (λ a b. is_found_in a.project b) t.findings)
    (are_keyed (λ a b. is_deviation a.project a.deviation.id b) t.deviations) (are_keyed (λ a b. is_permit a.name b) t.permits) (are_keyed same_request t.kept) h in
    record { projects = f.0; findings = f.1; deviations = f.2; permits = f.3; kept = f.4 }

from_lists : (t : Tables) → Lists t → IsKeyed t
from_lists t l = rw (l.projects, l.findings, l.deviations, l.permits, l.kept) refl

found_step : {R : Type 0} (p : R → Bool) (r x : R) (rest : Option R) (b : Bool) → p r ≡ b → (rest ≡ Some x → p x ≡ true)
    → cond b (Some r) rest ≡ Some x → p x ≡ true
found_step p r x rest true e later f = let same : r ≡ x = cc in subst (λ y. p y ≡ true) same e
found_step p r x rest false e later f = later f

-- what is found passes
found_passes : {R : Type 0} (p : R → Bool) (rows : List R) (x : R) → find p rows ≡ Some x → p x ≡ true
found_passes p [] x f = cc
found_passes p (r ∷ rows) x f = found_step p r x (find p rows) (p r) refl (found_passes p rows x) f

found_name : (name : List ℕ) (t : Tables) (row : ProjectRow) → project_named name t ≡ Some row → row.name ≡ name
found_name name t row e = (bytes_eq-Decides row.name name).0 (found_passes (is_named name) t.projects row e)

-- the project's row as it is changed, under its name
renewed : (name : List ℕ) (row : ProjectRow) (rows : List ProjectRow) → row.name ≡ name → are_keyed (λ a b. is_named a.name b) rows ≡ true
    → are_keyed (λ a b. is_named a.name b) (put (is_named name) row rows) ≡ true
renewed name row rows same h = subst (λ n. are_keyed (λ a b. is_named a.name b) (put (is_named n) row rows) ≡ true) same (keyed_projects row rows h)

revised : (found : Option ProjectRow) (name : List ℕ) (number : ℕ) (findings : List Finding) (t : Tables) → project_named name t ≡ found
    → Lists t → Lists (put_revision found name number findings t)
revised None name number findings t e l = l
revised (Some row) name number findings t e l = record {
  projects = renewed name (record row { revision = number }) t.projects (found_name name t row e) l.projects;
  findings = keyed_findings (record { project = name; found = findings }) t.findings l.findings;
  deviations = l.deviations;
  permits = l.permits;
  kept = l.kept;
}

replanned : (found : Option ProjectRow) (name : List ℕ) (plan : Plan) (t : Tables) → project_named name t ≡ found
    → Lists t → Lists (put_plan found name plan t)
replanned None name plan t e l = l
replanned (Some row) name plan t e l = record {
  projects = renewed name (record row { plan = plan }) t.projects (found_name name t row e) l.projects;
  findings = l.findings;
  deviations = l.deviations;
  permits = l.permits;
  kept = l.kept;
}

deviated : (project : List ℕ) (d : Deviation) (t : Tables) → Lists t → Lists (put_deviation project d t)
deviated project d t l = record {
  projects = l.projects;
  findings = l.findings;
  deviations = keyed_deviations (record { project = project; deviation = d }) t.deviations l.deviations;
  permits = l.permits;
  kept = l.kept;
}

written : (write : Write) (t : Tables) → Lists t → Lists (after_write write t)
written (writes.NewProject row) t l = record {
  projects = keyed_projects row t.projects l.projects;
  findings = l.findings;
  deviations = l.deviations;
  permits = l.permits;
  kept = l.kept;
}
written (writes.NewRevision name number findings) t l = revised (project_named name t) name number findings t refl l
written (writes.NewDeviation project d) t l = deviated project d t l
written (writes.SetDeviation project d) t l = deviated project d t l
written (writes.NewPermit permit) t l = record {
  projects = l.projects;
  findings = l.findings;
  deviations = l.deviations;
  permits = keyed_permits permit t.permits l.permits;
  kept = l.kept;
}
written (writes.SetPlan name plan) t l = replanned (project_named name t) name plan t refl l

kept_too : (row : Option KeptRow) (t : Tables) → Lists t → Lists (after_keeping row t)
kept_too None t l = l
kept_too (Some row) t l = record {
  projects = l.projects;
  findings = l.findings;
  deviations = l.deviations;
  permits = l.permits;
  kept = keyed_kept row t.kept l.kept;
}

-- a change leaves the keys different
pub keyed_change : (change : Change) (t : Tables) → IsKeyed t → IsKeyed (after_change change t)
keyed_change change t h = from_lists (after_change change t) (kept_too change.kept (after_write change.write t) (written change.write t (lists_of t h)))
