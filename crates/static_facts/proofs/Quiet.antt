-- What asks for nothing that begins, joins, detaches or ends an object of a sort.
use Rattle.std.proofs.Common.{◌≡◌, refl, Bool, true, false, ℕ, ℤ, List, [], ◌∷◌, Option, Some, None}
use Rattle.c_program.specs.declared.action.MutexKind.{MutexKind}
use Rattle.c_program.specs.declared.action.LibraryCall.TheVariants as lib
use Rattle.c_program.specs.declared.action.Act.{Act}
use Rattle.c_program.specs.declared.action.Act.TheVariants as act
use Rattle.c_program.specs.Types.{is_zero}
use Rattle.c_program.specs.Values.{Cell, Value}
use Rattle.c_program.specs.Evaluation.{Here}
use Rattle.c_program.specs.State.{State, Frame, Mark}
use Rattle.c_program.specs.Requests.{Request, Creates, Joins, Detaches, Inits, Tries, Tries_timed, Destroys, Opens, Closes, Makes_key, Deletes_key, Turn, Goes, Enters, Leaves, Exits}
use Rattle.c_program.specs.Faults.{Sort, A_mutex, A_condition, A_key, A_thread}
use Rattle.c_program.specs.Effects.{Sync, Suspends, Finishes, sync_of, sync_after, if_done, marks}
use Rattle.c_program.specs.Laws.{Names}
use Rattle.static_facts.specs.ObjectStates.{doing_of}
use Rattle.static_facts.specs.Seen.{use_by}

abbrev pub IsQuiet : Sort → Sync → Type 0
IsQuiet sort sync = (b : Bool) → use_by sync sort b ≡ None

module _ (here : Here) where
  create_does : (action : Act) (object : Cell) (f : ℕ) (v : Value) (z : ℤ) → doing_of A_thread action ≡ None → Names here action (Creates object f v z) → ⊥
  create_does (act.Library (lib.ThreadCreate o g e) into) object f v z d n = cc
  create_does _ object f v z d n = n

  join_does : (action : Act) (object : Cell) (into : Option Cell) → doing_of A_thread action ≡ None → Names here action (Joins object into) → ⊥
  join_does (act.Library (lib.ThreadJoin o e) r) object into d n = cc
  join_does _ object into d n = n

  detach_does : (action : Act) (object : Cell) → doing_of A_thread action ≡ None → Names here action (Detaches object) → ⊥
  detach_does (act.Library (lib.ThreadDetach o) r) object d n = cc
  detach_does _ object d n = n

  init_does : (action : Act) (m : Cell) (kind : MutexKind) (z : ℤ) → doing_of A_mutex action ≡ None → Names here action (Inits m kind z) → ⊥
  init_does (act.Library (lib.MutexInit e k) r) m kind z d n = cc
  init_does _ m kind z d n = n

  destroy_does : (action : Act) (m : Cell) → doing_of A_mutex action ≡ None → Names here action (Destroys m) → ⊥
  destroy_does (act.Library (lib.MutexDestroy e) r) m d n = cc
  destroy_does _ m d n = n

  open_does : (action : Act) (c : Cell) (z : ℤ) → doing_of A_condition action ≡ None → Names here action (Opens c z) → ⊥
  open_does (act.Library (lib.ConditionInit e) r) c z d n = cc
  open_does _ c z d n = n

  close_does : (action : Act) (c : Cell) → doing_of A_condition action ≡ None → Names here action (Closes c) → ⊥
  close_does (act.Library (lib.ConditionDestroy e) r) c d n = cc
  close_does _ c d n = n

  make_does : (action : Act) (k : Cell) (z : ℤ) → doing_of A_key action ≡ None → Names here action (Makes_key k z) → ⊥
  make_does (act.Library (lib.KeyCreate e) r) k z d n = cc
  make_does _ k z d n = n

  delete_does : (action : Act) (k : Cell) → doing_of A_key action ≡ None → Names here action (Deletes_key k) → ⊥
  delete_does (act.Library (lib.KeyDelete e) r) k d n = cc
  delete_does _ k d n = n

done_quiet : (sort : Sort) (b : Bool) (sync : Sync) → IsQuiet sort sync → IsQuiet sort (if_done b sync)
done_quiet sort true sync q = q
done_quiet A_mutex false sync q = λ b. refl
done_quiet A_condition false sync q = λ b. refl
done_quiet A_key false sync q = λ b. refl
done_quiet A_thread false sync q = λ b. refl

mutex_marks : (held : Option ℕ) (mark : Mark) → IsQuiet A_mutex (marks held mark)
mutex_marks None mark b = refl
mutex_marks (Some t) mark b = refl

condition_marks : (held : Option ℕ) (mark : Mark) → IsQuiet A_condition (marks held mark)
condition_marks None mark b = refl
condition_marks (Some t) mark b = refl

key_marks : (held : Option ℕ) (mark : Mark) → IsQuiet A_key (marks held mark)
key_marks None mark b = refl
key_marks (Some t) mark b = refl

module _ (here : Here) (action : Act) (state : State) where
  thread_quiet : (request : Request) → doing_of A_thread action ≡ None → Names here action request → IsQuiet A_thread (sync_of state request)
  thread_quiet (Creates object f v z) d n = absurd (create_does here action object f v z d n)
  thread_quiet (Joins object into) d n = absurd (join_does here action object into d n)
  thread_quiet (Detaches object) d n = absurd (detach_does here action object d n)
  thread_quiet (Inits m kind z) d n = done_quiet A_thread (is_zero z) _ (λ b. refl)
  thread_quiet (Tries m z) d n = done_quiet A_thread (is_zero z) _ (λ b. refl)
  thread_quiet (Tries_timed m z) d n = done_quiet A_thread (is_zero z) _ (λ b. refl)
  thread_quiet (Opens c z) d n = done_quiet A_thread (is_zero z) _ (λ b. refl)
  thread_quiet (Makes_key k z) d n = done_quiet A_thread (is_zero z) _ (λ b. refl)
  thread_quiet _ d n = λ b. refl

  mutex_quiet : (request : Request) → doing_of A_mutex action ≡ None → Names here action request → IsQuiet A_mutex (sync_of state request)
  mutex_quiet (Creates object f v z) d n = done_quiet A_mutex (is_zero z) _ (λ b. refl)
  mutex_quiet (Joins object into) d n = mutex_marks (state.holds object) _
  mutex_quiet (Detaches object) d n = mutex_marks (state.holds object) _
  mutex_quiet (Inits m kind z) d n = absurd (init_does here action m kind z d n)
  mutex_quiet (Destroys m) d n = absurd (destroy_does here action m d n)
  mutex_quiet (Tries m z) d n = done_quiet A_mutex (is_zero z) _ (λ b. refl)
  mutex_quiet (Tries_timed m z) d n = done_quiet A_mutex (is_zero z) _ (λ b. refl)
  mutex_quiet (Opens c z) d n = done_quiet A_mutex (is_zero z) _ (λ b. refl)
  mutex_quiet (Makes_key k z) d n = done_quiet A_mutex (is_zero z) _ (λ b. refl)
  mutex_quiet _ d n = λ b. refl

  condition_quiet : (request : Request) → doing_of A_condition action ≡ None → Names here action request → IsQuiet A_condition (sync_of state request)
  condition_quiet (Creates object f v z) d n = done_quiet A_condition (is_zero z) _ (λ b. refl)
  condition_quiet (Joins object into) d n = condition_marks (state.holds object) _
  condition_quiet (Detaches object) d n = condition_marks (state.holds object) _
  condition_quiet (Inits m kind z) d n = done_quiet A_condition (is_zero z) _ (λ b. refl)
  condition_quiet (Tries m z) d n = done_quiet A_condition (is_zero z) _ (λ b. refl)
  condition_quiet (Tries_timed m z) d n = done_quiet A_condition (is_zero z) _ (λ b. refl)
  condition_quiet (Opens c z) d n = absurd (open_does here action c z d n)
  condition_quiet (Closes c) d n = absurd (close_does here action c d n)
  condition_quiet (Makes_key k z) d n = done_quiet A_condition (is_zero z) _ (λ b. refl)
  condition_quiet _ d n = λ b. refl

  key_quiet : (request : Request) → doing_of A_key action ≡ None → Names here action request → IsQuiet A_key (sync_of state request)
  key_quiet (Creates object f v z) d n = done_quiet A_key (is_zero z) _ (λ b. refl)
  key_quiet (Joins object into) d n = key_marks (state.holds object) _
  key_quiet (Detaches object) d n = key_marks (state.holds object) _
  key_quiet (Inits m kind z) d n = done_quiet A_key (is_zero z) _ (λ b. refl)
  key_quiet (Tries m z) d n = done_quiet A_key (is_zero z) _ (λ b. refl)
  key_quiet (Tries_timed m z) d n = done_quiet A_key (is_zero z) _ (λ b. refl)
  key_quiet (Opens c z) d n = done_quiet A_key (is_zero z) _ (λ b. refl)
  key_quiet (Makes_key k z) d n = absurd (make_does here action k z d n)
  key_quiet (Deletes_key k) d n = absurd (delete_does here action k d n)
  key_quiet _ d n = λ b. refl

  pub quiet_by : (sort : Sort) (request : Request) → doing_of sort action ≡ None → Names here action request → IsQuiet sort (sync_of state request)
  quiet_by A_mutex = mutex_quiet
  quiet_by A_condition = condition_quiet
  quiet_by A_key = key_quiet
  quiet_by A_thread = thread_quiet

pub end_quiet : (sort : Sort) (result : Option Value) → IsQuiet sort (Finishes result)
end_quiet A_mutex result b = refl
end_quiet A_condition result b = refl
end_quiet A_key result b = refl
end_quiet A_thread result b = refl

pub wait_quiet : (sort : Sort) (c m : Cell) → IsQuiet sort (Suspends c m)
wait_quiet A_mutex c m b = refl
wait_quiet A_condition c m b = refl
wait_quiet A_key c m b = refl
wait_quiet A_thread c m b = refl

pub quiet_after : (sort : Sort) (frames : List Frame) (turn : Turn) (sync : Sync) → IsQuiet sort sync → IsQuiet sort (sync_after frames turn sync)
quiet_after sort frames Goes sync q = q
quiet_after sort frames (Enters f arguments result) sync q = q
quiet_after sort frames (Exits result) sync q = end_quiet sort result
quiet_after sort [] (Leaves result) sync q = end_quiet sort result
quiet_after sort (frame ∷ []) (Leaves result) sync q = end_quiet sort result
quiet_after sort (frame ∷ caller ∷ frames) (Leaves result) sync q = q
