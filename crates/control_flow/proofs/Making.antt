-- What a pass over the bodies makes belongs to the program.
use Rattle.std.proofs.Common.{◌≡◌, refl, sym, ap, ◌∙◌, subst, true, ◌⊎◌, ⊎_elim, eq-or-lt_of_le, inl, inr, ℕ, zero, suc, ◌+◌, ◌<◌, ◌≤◌, List, [], ◌∷◌, map, length, length-append, Some, slice_get, arith}
use Rattle.std.specs.Prelude.{option_map, unwrap_or}
use Rattle.std.specs.List.{flat_map}
use Rattle.c_program.specs.declared.statement.Statement.{Statement, Break}
use Rattle.c_program.specs.declared.program.Function.{Function}
use Rattle.c_program.specs.declared.program.Program.{Program}
use Rattle.c_program.specs.Syntax.{body_at}
use Rattle.c_program.specs.Control.{Control, Run, Move, Ways, Spot, Round, rounds_of, ways}
use Rattle.c_program.specs.Paths.{actions_of, spots_of}
use Rattle.c_program.specs.WellFormed.{IsWellFormed, text_of, all_differ}
use Rattle.c_program.proofs.Members.{from_contains, In, each_in, in_left, in_right, apart, differ_left, differ_right, mapped}
use Rattle.c_program.proofs.Sites.{Site, sites, stems, one_site, spots_are}
use Rattle.c_program.proofs.Sites as sites_of
use Rattle.flow_points.specs.declared.graph.Function.{Function as FunctionOf}
use Rattle.flow_points.specs.Graphs.{next_at}
use Rattle.control_flow.specs.declared.flow.Flow.{Flow}
use Rattle.control_flow.specs.Labels.{spot_of, spot_at}
use Rattle.control_flow.proofs.Built.{IsFlowOf, IsEnd, no_ways, heads}
use Rattle.control_flow.specs.Layout.{size_of, nexts_of}
use Rattle.control_flow.specs.Edges.{SpotsHaveNodes}
use Rattle.control_flow.specs.Made.{IsMade, AreOf, text_spots, nexts_from, behind}
use Rattle.control_flow.proofs.Places.{Marks, Leads, long}
use Rattle.control_flow.proofs.Laid.{Meets, lead, runs_to}
use Rattle.control_flow.proofs.Tables.{At, at_left, at_right, by_list, to_marks}

-- ---- an action stands in one body

body_in : List Function → ℕ → Statement
body_in functions n = unwrap_or (option_map (λ (f : Function). f.body) (slice_get functions n)) Break

in_text : (functions : List Function) (n a : ℕ) → In a (actions_of (unwrap_or (option_map (λ (f : Function). f.body) (slice_get functions n)) Break)) → In a (text_of functions)
in_text [] n a i = i
in_text (f ∷ functions) zero a i = in_left a (actions_of f.body) (text_of functions) i
in_text (f ∷ functions) (suc n) a i = in_right a (actions_of f.body) (text_of functions) (in_text functions n a i)

one_body : (functions : List Function) (m n a : ℕ) → all_differ (text_of functions) ≡ true
    → In a (actions_of (unwrap_or (option_map (λ (f : Function). f.body) (slice_get functions m)) Break))
    → In a (actions_of (unwrap_or (option_map (λ (f : Function). f.body) (slice_get functions n)) Break)) → m ≡ n
one_body [] m n a d i j = absurd i
one_body (f ∷ functions) zero zero a d i j = refl
one_body (f ∷ functions) zero (suc n) a d i j = absurd (apart a (actions_of f.body) (text_of functions) d i (in_text functions n a j))
one_body (f ∷ functions) (suc m) zero a d i j = absurd (apart a (actions_of f.body) (text_of functions) d j (in_text functions m a i))
one_body (f ∷ functions) (suc m) (suc n) a d i j = ap suc (one_body functions m n a (differ_right (actions_of f.body) (text_of functions) d) i j)

differ_in : (functions : List Function) (n : ℕ) → all_differ (text_of functions) ≡ true
    → all_differ (actions_of (unwrap_or (option_map (λ (f : Function). f.body) (slice_get functions n)) Break)) ≡ true
differ_in [] n d = refl
differ_in (f ∷ functions) zero d = differ_left (actions_of f.body) (text_of functions) d
differ_in (f ∷ functions) (suc n) d = differ_in functions n (differ_right (actions_of f.body) (text_of functions) d)

split : (a b : ℕ) → (a < b) ⊎ (b ≤ a)
split a b = grind arith

-- ---- the site of a node

pub record SiteOf (label : ℕ → Spot) (next : ℕ → List ℕ) (all : List Site) (n : ℕ) : Type 0 where
  pub site : Site
  pub is_in : In site all
  pub here : label n ≡ site.spot
  pub leads : map label (next n) ≡ flat_map (λ (m : Move). heads m.left) site.moves

site_of : (label : ℕ → Spot) (next : ℕ → List ℕ) (all : List Site) (nexts : List (List ℕ)) (start n : ℕ) → Leads label all nexts → Marks label start all → At next start nexts
    → start ≤ n → n < start + length all → SiteOf label next all n
site_of label next [] [] start n l m a low high = absurd (none start n low high)
  where
    none : (start n : ℕ) → start ≤ n → n < start + 0 → ⊥
    none start n low high = omega (arith, low, high)
site_of label next [] (x ∷ nexts) start n l m a low high = absurd l
site_of label next (site ∷ all) [] start n l m a low high = absurd l
site_of label next (site ∷ all) (x ∷ nexts) start n l m a low high = go (λ later. site_of label next all nexts (suc start) n l.1 m.1 a.1 later (below start n (length all) high)) (same_or_later start n low)
  where
    above : (start n : ℕ) → start < n → suc start ≤ n
    above start n l = omega (arith, l)

    same_or_later : (start n : ℕ) → start ≤ n → (start ≡ n) ⊎ (suc start ≤ n)
    same_or_later start n low = ⊎_elim inl (λ l. inr (above start n l)) (eq-or-lt_of_le low)

    below : (start n k : ℕ) → n < start + suc k → n < suc start + k
    below start n k high = omega (arith, high)

    further : SiteOf label next all n → SiteOf label next (site ∷ all) n
    further s = record { site = s.site; is_in = inr s.is_in; here = s.here; leads = s.leads }

    go : (suc start ≤ n → SiteOf label next all n) → (start ≡ n) ⊎ (suc start ≤ n) → SiteOf label next (site ∷ all) n
    go more (inl e) = record {
      site = site;
      is_in = inl refl;
      here = ap label (sym e) ∙ m.0;
      leads = ap (λ k. map label (next k)) (sym e) ∙ ap (map label) a.0 ∙ l.0;
    }
    go more (inr later) = further (more later)

module _ (program : Program) (well : IsWellFormed program) (label : ℕ → Spot) (next : ℕ → List ℕ) where
  end_meets : (rounds : List Round) (w : Ways) → w ≡ no_ways → Meets label rounds w [] [] []
  end_meets rounds w e = subst (λ v. Meets label rounds v [] [] []) (sym e) (record { here = refl; out = refl; again = refl })

  -- the body of a function before a base
  marked : (f start : ℕ) (base : Control) → IsEnd base → At label start (spots_of [] (body_at program f)) → Marks label start (sites (body_at program f) base)
  marked f start base end a = to_marks label start (sites (body_at program f) base)
      (subst (At label start) (sym (spots_are (body_at program f) base ∙ ap (λ r. spots_of r (body_at program f)) end.rounds)) a)

  long_spots : (f : ℕ) → length (spots_of [] (body_at program f)) ≡ size_of (body_at program f)
  long_spots f = ap length (sym (spots_are (body_at program f) [])) ∙ mapped_long (sites (body_at program f) []) ∙ long (body_at program f) []
    where
      mapped_long : (all : List Site) → length (mapped sites_of.spot_of all) ≡ length all
      mapped_long [] = refl
      mapped_long (site ∷ all) = ap suc (mapped_long all)

  long_nexts : (label' : ℕ → Spot) (all : List Site) (nexts : List (List ℕ)) → Leads label' all nexts → length nexts ≡ length all
  long_nexts label' [] [] l = refl
  long_nexts label' [] (x ∷ nexts) l = absurd l
  long_nexts label' (site ∷ all) [] l = absurd l
  long_nexts label' (site ∷ all) (x ∷ nexts) l = ap suc (long_nexts label' all nexts l.1)

  leads_in : (f start : ℕ) (base : Control) (end : IsEnd base) → At label start (spots_of [] (body_at program f))
      → Leads label (sites (body_at program f) base) (nexts_of (body_at program f) start [] [] [])
  leads_in f start base end a = lead label (body_at program f) base start [] [] [] (marked f start base end a) (end_meets (rounds_of base) (ways base) end.ways)

  -- where a node stands
  pub record Stand (n : ℕ) : Type 0 where
    pub function : ℕ
    pub start : ℕ
    pub low : start ≤ n
    pub high : n < start + size_of (body_at program function)
    pub labels : At label start (spots_of [] (body_at program function))
    pub nexts : At next start (nexts_of (body_at program function) start [] [] [])

  empty_end : IsEnd []
  empty_end = record { ways = refl; rounds = refl }

  total : List ℕ → ℕ
  total [] = 0
  total (f ∷ fs) = size_of (body_at program f) + total fs

  stand_of : (fs : List ℕ) (start n : ℕ) → At label start (text_spots program fs) → At next start (nexts_from program start fs) → start ≤ n → n < start + total fs → Stand n
  unfolding total
  stand_of [] start n a b low high = absurd (none start n low high)
    where
      none : (start n : ℕ) → start ≤ n → n < start + 0 → ⊥
      none start n low high = omega (arith, low, high)
  stand_of (f ∷ fs) start n a b low high = go (λ l. stand_of fs (start + size_of (body_at program f)) n
      (subst (λ k. At label (start + k) (text_spots program fs)) (long_spots f) (at_right label start (spots_of [] (body_at program f)) (text_spots program fs) a))
      (subst (λ k. At next (start + k) (nexts_from program (start + size_of (body_at program f)) fs)) nexts_long
      (at_right next start (nexts_of (body_at program f) start [] [] []) (nexts_from program (start + size_of (body_at program f)) fs) b))
      l (below start n (size_of (body_at program f)) (total fs) high)) (which start n (size_of (body_at program f)))
    where
      which : (start n k : ℕ) → (n < start + k) ⊎ (start + k ≤ n)
      which start n k = split n (start + k)

      below : (start n k rest : ℕ) → n < start + (k + rest) → n < (start + k) + rest
      below start n k rest high = omega (arith, high)

      labels : At label start (spots_of [] (body_at program f))
      labels = at_left label start (spots_of [] (body_at program f)) (text_spots program fs) a

      nexts_long : length (nexts_of (body_at program f) start [] [] []) ≡ size_of (body_at program f)
      nexts_long = long_nexts label (sites (body_at program f) []) (nexts_of (body_at program f) start [] [] []) (leads_in f start [] empty_end labels) ∙ long (body_at program f) []

      go : (start + size_of (body_at program f) ≤ n → Stand n) → (n < start + size_of (body_at program f)) ⊎ (start + size_of (body_at program f) ≤ n) → Stand n
      go more (inl h) = record {
        function = f;
        start = start;
        low = low;
        high = h;
        labels = labels;
        nexts = at_left next start (nexts_of (body_at program f) start [] [] []) (nexts_from program (start + size_of (body_at program f)) fs) b;
      }
      go more (inr l) = more l

  -- the node of a site leads where the site's moves lead
  leads_at : (f n : ℕ) (base : Control) → IsEnd base → (site : Site) → In site (sites (body_at program f) base) → label n ≡ site.spot → Stand n
      → map label (next n) ≡ flat_map (λ (m : Move). heads m.left) site.moves
  leads_at f n base end site i here s =
      let g = s.function in
      let found = site_of label next (sites (body_at program g) base) (nexts_of (body_at program g) s.start [] [] []) s.start n (leads_in g s.start base end s.labels)
      (marked g s.start base end s.labels) s.nexts s.low (subst (λ k. n < s.start + k) (sym (long (body_at program g) base)) s.high) in
      let in_f = (each_in _ site (sites (body_at program f) base) (stems (body_at program f) base) i).by in
      let in_g = (each_in _ found.site (sites (body_at program g) base) (stems (body_at program g) base) found.is_in).by in
      let spots : found.site.spot ≡ site.spot = sym found.here ∙ here in
      let same : g ≡ f = one_body program.functions g f site.spot.action well.differ (subst (λ (spot : Spot). In spot.action (actions_of (body_at program g))) spots in_g) in_f in
      let j = subst (λ k. In found.site (sites (body_at program k) base)) same found.is_in in
      let one : found.site ≡ site = one_site (body_at program f) base (differ_in program.functions f well.differ) found.site site j i spots in
      found.leads ∙ ap (λ (x : Site). flat_map (λ (m : Move). heads m.left) x.moves) one

  -- where a function begins
  enters_at : (entry : ℕ → ℕ) (functions : List FunctionOf) (fs : List ℕ) (start : ℕ) → At label start (text_spots program fs) → AreOf program start functions fs
      → (g f : ℕ) → slice_get fs g ≡ Some f → (base : Control) → IsEnd base
      → heads (Run (body_at program f) ∷ base) ≡ label (unwrap_or (option_map (λ (x : FunctionOf). x.entry) (slice_get functions g)) 0) ∷ []
  enters_at entry functions [] start a o g f e base end = absurd (cc)
  enters_at entry [] (f' ∷ fs) start a o g f e base end = absurd o
  enters_at entry (function ∷ functions) (f' ∷ fs) start a o zero f e base end =
      let same : f' ≡ f = got f' f e in
      let m = marked f' start base end (at_left label start (spots_of [] (body_at program f')) (text_spots program fs) a) in
      ap (λ k. heads (Run (body_at program k) ∷ base)) (sym same)
      ∙ runs_to label (body_at program f') base start [] [] [] m (end_meets (rounds_of base) (ways base) end.ways)
      ∙ ap (map label) o.0.enters
    where
      got : (a b : ℕ) → Some a ≡ Some b → a ≡ b
      got a b e = cc
  enters_at entry (function ∷ functions) (f' ∷ fs) start a o (suc g) f e base end =
      enters_at entry functions fs (start + size_of (body_at program f'))
      (subst (λ k. At label (start + k) (text_spots program fs)) (long_spots f') (at_right label start (spots_of [] (body_at program f')) (text_spots program fs) a)) o.1 g f e base end

  long_all : (fs : List ℕ) (start : ℕ) → At label start (text_spots program fs) → length (nexts_from program start fs) ≡ total fs
  unfolding total
  long_all [] start a = refl
  long_all (f ∷ fs) start a =
      length-append (nexts_of (body_at program f) start [] [] []) (nexts_from program (start + size_of (body_at program f)) fs)
      ∙ ap (λ k. k + length (nexts_from program (start + size_of (body_at program f)) fs))
      (long_nexts label (sites (body_at program f) []) (nexts_of (body_at program f) start [] [] [])
      (leads_in f start [] empty_end (at_left label start (spots_of [] (body_at program f)) (text_spots program fs) a)) ∙ long (body_at program f) [])
      ∙ ap (λ k. size_of (body_at program f) + k) (long_all fs (start + size_of (body_at program f))
      (subst (λ k. At label (start + k) (text_spots program fs)) (long_spots f) (at_right label start (spots_of [] (body_at program f)) (text_spots program fs) a)))

-- ---- each spot has a node

at_in : (label : ℕ → Spot) (start : ℕ) (spots : List Spot) (spot : Spot) → At label start spots → In spot spots → (n : ℕ) × (n < start + length spots) × (label n ≡ spot)
at_in label start [] spot m i = absurd i
at_in label start (x ∷ spots) spot m (inl e) = (start, within start (length spots), m.0 ∙ e)
  where
    within : (start k : ℕ) → start < start + suc k
    within start k = omega arith
at_in label start (x ∷ spots) spot m (inr i) = let r = at_in label (suc start) spots spot m.1 i in (r.0, within r.0 start (length spots) r.1, r.2)
  where
    within : (n start k : ℕ) → n < suc start + k → n < start + suc k
    within n start k l = omega (arith, l)

in_spots : (program : Program) (fs : List ℕ) (g f : ℕ) (spot : Spot) → slice_get fs g ≡ Some f → In spot (spots_of [] (body_at program f)) → In spot (text_spots program fs)
in_spots program [] g f spot e i = absurd (cc)
in_spots program (x ∷ fs) zero f spot e i =
    in_left spot (spots_of [] (body_at program x)) (text_spots program fs) (subst (λ k. In spot (spots_of [] (body_at program k))) (sym (got x f e)) i)
  where
    got : (a b : ℕ) → Some a ≡ Some b → a ≡ b
    got a b e = cc
in_spots program (x ∷ fs) (suc g) f spot e i = in_right spot (spots_of [] (body_at program x)) (text_spots program fs) (in_spots program fs g f spot e i)

long_text : (program : Program) (well : IsWellFormed program) (label : ℕ → Spot) (next : ℕ → List ℕ) (fs : List ℕ) → length (text_spots program fs) ≡ total program well label next fs
unfolding total
long_text program well label next [] = refl
long_text program well label next (f ∷ fs) =
    length-append (spots_of [] (body_at program f)) (text_spots program fs)
    ∙ ap (λ k. k + length (text_spots program fs)) (long_spots program well label next f)
    ∙ ap (λ k. size_of (body_at program f) + k) (long_text program well label next fs)

map_long : {A B : Type 0} (f : A → B) (xs : List A) → length (map f xs) ≡ length xs
map_long f [] = refl
map_long f (x ∷ xs) = ap suc (map_long f xs)

pub spots_have_nodes : (program : Program) (flow : Flow) → IsWellFormed program → IsMade program flow → SpotsHaveNodes program flow
unfolding spot_at
spots_have_nodes program flow well made place function spot e c =
    let order = flow.order.items in
    let labels : At (spot_at flow) 0 (text_spots program order) = by_list spot_of (record { action = 0; rounds = [] }) flow.spots.items (text_spots program order) made.spots in
    let all_nodes : length flow.graph.nodes.items ≡ length (text_spots program order) =
    sym (map_long behind flow.graph.nodes.items) ∙ ap length made.nexts ∙ long_all program well (spot_at flow) (next_at flow.graph) order 0 labels
    ∙ sym (long_text program well (spot_at flow) (next_at flow.graph) order) in
    let found = at_in (spot_at flow) 0 (text_spots program order) spot labels (in_spots program order place function spot e (from_contains spot (spots_of [] (body_at program function)) c)) in
    (found.0, within found.0 _ _ all_nodes found.1, found.2)
  where
    within : (n a b : ℕ) → a ≡ b → n < 0 + b → n < a
    within n a b e l = omega (arith, e, l)

pub made_belongs : (program : Program) (flow : Flow) → IsWellFormed program → IsMade program flow → IsFlowOf program flow
unfolding spot_at
made_belongs program flow well made =
    let order = flow.order.items in
    let labels : At (spot_at flow) 0 (text_spots program order) = by_list spot_of (record { action = 0; rounds = [] }) flow.spots.items (text_spots program order) made.spots in
    let nexts : At (next_at flow.graph) 0 (nexts_from program 0 order) = by_list behind [] flow.graph.nodes.items (nexts_from program 0 order) made.nexts in
    let all_nodes : length flow.graph.nodes.items ≡ total program well (spot_at flow) (next_at flow.graph) order =
    sym (map_long behind flow.graph.nodes.items) ∙ ap length made.nexts ∙ long_all program well (spot_at flow) (next_at flow.graph) order 0 labels in
    record {
      acts = made.acts;
      nexts = λ f base end site i n below here. leads_at program well (spot_at flow) (next_at flow.graph) f n base end site i here
          (stand_of program well (spot_at flow) (next_at flow.graph) order 0 n labels nexts (least n) (within n _ _ all_nodes below));
      entries = λ g f e base end. enters_at program well (spot_at flow) (next_at flow.graph) (λ k. k) flow.graph.functions.items order 0 labels made.functions g f e base end;
    }
  where
    least : (n : ℕ) → 0 ≤ n
    least n = omega arith

    within : (n a b : ℕ) → a ≡ b → n < a → n < 0 + b
    within n a b e l = omega (arith, e, l)
