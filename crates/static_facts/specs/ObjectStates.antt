-- Library objects as paths of the initial thread see them: thread objects, mutexes, condition variables and keys.
use Rattle.std.specs.Prelude.{Option, Some, None}
use Rattle.c_program.specs.declared.action.Local.{Local}
use Rattle.c_program.specs.declared.action.LibraryCall.TheVariants as lib
use Rattle.c_program.specs.declared.action.Act.{Act}
use Rattle.c_program.specs.declared.action.Act.TheVariants as act
use Rattle.c_program.specs.Faults.{Sort, A_mutex, A_condition, A_key, A_thread}

-- a thread object is unmade, live, joined or detached; another object is unmade, live or dead
pub data ObjectState : Type 0 where
  Is_unmade : ObjectState
  Is_live : ObjectState
  Is_joined : ObjectState
  Is_detached : ObjectState
  Is_dead : ObjectState

-- what a call does with the object of its first argument
pub data Doing : Type 0 where
  Begins : Doing
  Joins_it : Doing
  Detaches_it : Doing
  Ends_it : Doing

abbrev pub doing_of : Sort → Act → Option Doing
doing_of A_thread (act.Library (lib.ThreadCreate o f e) into) = Some Begins
doing_of A_thread (act.Library (lib.ThreadJoin o e) into) = Some Joins_it
doing_of A_thread (act.Library (lib.ThreadDetach o) into) = Some Detaches_it
doing_of A_mutex (act.Library (lib.MutexInit e kind) into) = Some Begins
doing_of A_mutex (act.Library (lib.MutexDestroy e) into) = Some Ends_it
doing_of A_condition (act.Library (lib.ConditionInit e) into) = Some Begins
doing_of A_condition (act.Library (lib.ConditionDestroy e) into) = Some Ends_it
doing_of A_key (act.Library (lib.KeyCreate e) into) = Some Begins
doing_of A_key (act.Library (lib.KeyDelete e) into) = Some Ends_it
doing_of sort action = None

-- the local that gets the result of a library call
abbrev pub result_of_call : Act → Option Local
result_of_call (act.Library call into) = into
result_of_call _ = None

abbrev pub if_live : ObjectState → ObjectState → ObjectState
if_live Is_live new = new
if_live state new = state

-- joins and detaches of a thread that is not live leave it
abbrev pub changed : Doing → ObjectState → ObjectState
changed Begins state = Is_live
changed Joins_it state = if_live state Is_joined
changed Detaches_it state = if_live state Is_detached
changed Ends_it state = Is_dead

abbrev pub changed_by : Option Doing → ObjectState → ObjectState
changed_by None state = state
changed_by (Some doing) state = changed doing state

-- ---- by sorts

-- the states of an object of the sort
abbrev pub IsStateOf : Sort → ObjectState → Type 0
IsStateOf A_thread Is_dead = ⊥
IsStateOf A_thread _ = Unit {0}
IsStateOf _ Is_joined = ⊥
IsStateOf _ Is_detached = ⊥
IsStateOf _ _ = Unit {0}

abbrev pub IsNoThread : Sort → Type 0
IsNoThread A_thread = ⊥
IsNoThread _ = Unit {0}
