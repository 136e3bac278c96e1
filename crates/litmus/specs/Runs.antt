-- Texts that are run to their end, that wait, and whose calls fail.
use Rattle.std.specs.Prelude.{◌≡◌, ℕ, suc, true, false, ℤ, pos, List, [], ◌∷◌, Some, None}
use Rattle.c_program.specs.declared.types.CType.{CType}
use Rattle.c_program.specs.declared.types.Base.TheVariants as base
use Rattle.c_program.specs.declared.types.Integer.TheVariants.{Int}
use Rattle.c_program.specs.declared.expression.Expr.{Expr, Object, Local}
use Rattle.c_program.specs.declared.expression.BinaryOperator.TheVariants.{Add, Less, NotEqual}
use Rattle.c_program.specs.declared.action.Local.{Local as LocalOf}
use Rattle.c_program.specs.declared.action.LibraryCall.{LibraryCall}
use Rattle.c_program.specs.declared.action.LibraryCall.TheVariants as lib
use Rattle.c_program.specs.declared.action.Act.{Act}
use Rattle.c_program.specs.declared.action.Act.TheVariants.{Read, Write, Assign, Declare, Library, Evaluate, Branch}
use Rattle.c_program.specs.declared.action.Action.{Action}
use Rattle.c_program.specs.declared.statement.Condition.{Test}
use Rattle.c_program.specs.declared.statement.Counter.{Counter}
use Rattle.c_program.specs.declared.statement.Statement.{Do}
use Rattle.c_program.specs.declared.program.Storage.TheVariants.{Static}
use Rattle.c_program.specs.declared.program.Object.{Object as ObjectOf}
use Rattle.c_program.specs.declared.program.Program.{Program}
use Rattle.c_program.specs.Syntax.{c_int, If, After, Counted, Element}
use Rattle.c_program.specs.Lists.{Path, Chain, Block}
use Rattle.c_program.specs.Types.{plain_type}
use Rattle.c_program.specs.Values.{Cell, Number, Static as StaticRoot, Of_frame}
use Rattle.c_program.specs.State.{Life, Unmade, Live, Mutex, Joined, control_of, inside_of, has_ended}
use Rattle.c_program.specs.Step.{Choice, No_step}
use Rattle.c_program.specs.Runs.{IsGoodRun, state_after, outcome_of}
use Rattle.c_program.specs.WellFormed.{IsWellFormed}
use Rattle.misra_base.specs.declared.guideline.Guideline.{Guideline}
use Rattle.litmus.specs.Statements.{KeepsTo}
use Rattle.litmus.specs.Pieces.{at, void_pointer, automatic_object, timespec, m, c, t, k, own, main, function_of, straight, in_w, in_main, number, null, return_0, idle, plain_kind, init, lock, unlock, wait, open_condition, create, goes, answers, in_order}

-- ---- the tested form of a text whose two threads count under a mutex, to the return of main

abbrev pub file_object : List ℕ → ℕ → ℕ → CType → ObjectOf
file_object name line column t = record { name = name; place = at line column; storage = Static; c_type = t; function = None; initial = [] }

abbrev pub on : ℕ → ℕ → Act → Action
on line column act = record { place = at line column; act = act }

abbrev pub int_local : ℕ → LocalOf
int_local object = record { object = object; path = []; c_type = c_int }

--  1  #include <threads.h>
--  2  static mtx_t m;
--  3  static thrd_t t1;
--  4  static thrd_t t2;
--  5  static int counter;
--  6  static int worker(void *arg)
--  7  {
--  8      (void)arg;
--  9      (void)mtx_lock(&m);
-- 10      counter = counter + 1;
-- 11      (void)mtx_unlock(&m);
-- 12      return 0;
-- 13  }
-- 14  int main(void)
-- 15  {
-- 16      if (mtx_init(&m, mtx_plain) != thrd_success) { thrd_exit(1); }
-- 17      (void)thrd_create(&t1, worker, NULL);
-- 18      (void)thrd_create(&t2, worker, NULL);
-- 19      (void)thrd_join(t1, NULL);
-- 20      (void)thrd_join(t2, NULL);
-- 21      mtx_destroy(&m);
-- 22      return 0;
-- 23  }
abbrev pub counting : Program
counting = record {
  structures = timespec ∷ [];
  objects = file_object (109 ∷ []) 2 14 (plain_type base.Mutex) ∷ file_object (116 ∷ 49 ∷ []) 3 15 (plain_type base.Thread) ∷ file_object (116 ∷ 50 ∷ []) 4 15 (plain_type base.Thread)
      ∷ file_object (99 ∷ 111 ∷ 117 ∷ 110 ∷ 116 ∷ 101 ∷ 114 ∷ []) 5 12 c_int
      ∷ automatic_object (97 ∷ 114 ∷ 103 ∷ []) (at 6 25) void_pointer 0 ∷ automatic_object [] (at 10 15) c_int 0 ∷ automatic_object [] (at 16 9) c_int 1 ∷ [];
  functions = function_of (119 ∷ 111 ∷ 114 ∷ 107 ∷ 101 ∷ 114 ∷ []) (at 6 12) (4 ∷ []) (Block (Do 0 ∷ Do 1 ∷ Do 2 ∷ Do 3 ∷ Do 4 ∷ Do 5 ∷ []))
      ∷ function_of (109 ∷ 97 ∷ 105 ∷ 110 ∷ []) (at 14 5) []
      (Block (If (After (Do 6) (Test 7)) (Block (Do 8 ∷ [])) (Block []) ∷ Do 9 ∷ Do 10 ∷ Do 11 ∷ Do 12 ∷ Do 13 ∷ Do 14 ∷ [])) ∷ [];
  actions = on 8 5 (Evaluate (Local 4 [])) ∷ on 9 11 (lock 0) ∷ on 10 15 (Read (Object 3) c_int (int_local 5))
      ∷ on 10 5 (Write (Object 3) c_int (Chain (Local 5 []) (record { operator = Add; integer = Int; operand = number 1 } ∷ []))) ∷ on 11 11 (unlock 0) ∷ on 12 5 return_0
      ∷ on 16 9 (Library (lib.MutexInit (Object 0) plain_kind) (Some (int_local 6)))
      ∷ on 16 9 (Branch (Chain (Local 6 []) (record { operator = NotEqual; integer = Int; operand = number 0 } ∷ [])) None)
      ∷ on 16 52 (Library (lib.ThreadExit (number 1)) None)
      ∷ on 17 11 (Library (lib.ThreadCreate (Object 1) 0 null) None) ∷ on 18 11 (Library (lib.ThreadCreate (Object 2) 0 null) None)
      ∷ on 19 11 (Library (lib.ThreadJoin (Object 1) null) None) ∷ on 20 11 (Library (lib.ThreadJoin (Object 2) null) None)
      ∷ on 21 5 (Library (lib.MutexDestroy (Object 0)) None) ∷ on 22 5 return_0 ∷ [];
  main = 1;
}

-- the other side of a branch
abbrev pub not_so : ℕ → Choice
not_so thread = record { thread = thread; pair = 1; values = [] }

-- both threads run one after the other, between the creations and the joins
abbrev pub counting_schedule : List Choice
counting_schedule = in_order (answers 0 0 ∷ not_so 0 ∷ answers 0 0 ∷ answers 0 0
    ∷ goes 1 ∷ goes 1 ∷ goes 1 ∷ goes 1 ∷ goes 1 ∷ goes 1 ∷ goes 2 ∷ goes 2 ∷ goes 2 ∷ goes 2 ∷ goes 2 ∷ goes 2
    ∷ goes 0 ∷ goes 0 ∷ goes 0 ∷ goes 0 ∷ [])

-- a run to the return of main, each of whose steps has a meaning and breaks no guideline, and what a cell then holds
pub record ReturnsWith (program : Program) (run : List Choice) (cell : Cell) (number : ℤ) : Type 0 where
  pub is_well_formed : IsWellFormed program
  pub is_run : IsGoodRun program run
  pub is_over : (state_after program run).is_over ≡ true
  pub holds : (state_after program run).memory cell ≡ Some (Number number)
  pub keeps : (guideline : Guideline) → KeepsTo guideline program run

abbrev pub static_cell : ℕ → Cell
static_cell object = record { root = StaticRoot object; path = [] }

abbrev pub counter : Cell
counter = static_cell 3

-- ---- a wait in two steps

-- w: (void)mtx_lock(&m); (void)mtx_unlock(&m);
-- main: (void)mtx_init(&m, mtx_plain); (void)cnd_init(&c); (void)thrd_create(&t, w, NULL); (void)mtx_lock(&m); (void)cnd_wait(&c, &m);
abbrev pub waiter : Program
waiter = straight [] (in_w 33 (lock m) ∷ in_w 53 (unlock m) ∷ in_w 69 return_0 ∷ [])
    (in_main 24 (init m) ∷ in_main 55 (open_condition c) ∷ in_main 75 create ∷ in_main 107 (lock m) ∷ in_main 127 (wait c m) ∷ in_main 145 return_0 ∷ [])

abbrev pub owned_by : ℕ → ℕ → Life Mutex
owned_by thread depth = Live (record { kind = plain_kind; owner = thread; depth = depth })

-- before the wait; behind its first step; where w owns the mutex; where w has given it; and behind the second step
abbrev pub before_wait : List Choice
before_wait = in_order (answers 0 0 ∷ answers 0 0 ∷ answers 0 0 ∷ goes 0 ∷ [])

abbrev pub first_step : List Choice
first_step = goes 0 ∷ before_wait

abbrev pub taken : List Choice
taken = goes 1 ∷ first_step

abbrev pub given : List Choice
given = goes 1 ∷ taken

abbrev pub second_step : List Choice
second_step = goes 0 ∷ given

pub record WaitsInTwoSteps (program : Program) : Type 0 where
  pub is_well_formed : IsWellFormed program
  pub is_run : IsGoodRun program second_step
  -- the first step gives the mutex, which becomes the first one of the condition variable, and the thread stands where it stood
  pub owned : (state_after program before_wait).mutex (static_cell m) ≡ owned_by 0 1
  pub free : (state_after program first_step).mutex (static_cell m) ≡ owned_by 0 0
  pub first : (state_after program first_step).condition (static_cell c) ≡ Live (Some (static_cell m))
  pub stays : control_of ((state_after program first_step).thread 0).stand ≡ control_of ((state_after program before_wait).thread 0).stand
  pub inside : inside_of ((state_after program first_step).thread 0).stand ≡ Some (static_cell m)
  -- while another thread owns the mutex, the second step is none
  pub other : (state_after program taken).mutex (static_cell m) ≡ owned_by 1 1
  pub blocked : outcome_of program (goes 0) taken ≡ No_step
  -- the second step takes it again, without a signal
  pub again : (state_after program second_step).mutex (static_cell m) ≡ owned_by 0 1
  pub outside : inside_of ((state_after program second_step).thread 0).stand ≡ None

-- ---- calls that fail

-- main: int r = CALL;
abbrev pub result_of : LibraryCall → Program
result_of call = straight (automatic_object (114 ∷ []) (at 5 22) c_int main ∷ []) idle (in_main 26 (Library call (Some (int_local own))) ∷ in_main 60 return_0 ∷ [])

-- the call answers with this result, and makes nothing
pub record MakesNothing (program : Program) (result : ℕ) : Type 0 where
  pub is_run : IsGoodRun program (answers 0 result ∷ [])
  pub answered : (state_after program (answers 0 result ∷ [])).memory (record { root = Of_frame 0 own; path = [] }) ≡ Some (Number (pos result))
  pub mutex : (state_after program (answers 0 result ∷ [])).mutex (static_cell m) ≡ Unmade
  pub condition : (state_after program (answers 0 result ∷ [])).condition (static_cell c) ≡ Unmade
  pub key : (state_after program (answers 0 result ∷ [])).key (static_cell k) ≡ Unmade
  pub holds : (state_after program (answers 0 result ∷ [])).holds (static_cell t) ≡ None
  pub threads : (state_after program (answers 0 result ∷ [])).made ≡ 1
  pub calls : (state_after program (answers 0 result ∷ [])).called ≡ 1

-- thrd_busy, thrd_error, thrd_nomem and thrd_timedout may come, and no sixth result
pub record MayFail (call : LibraryCall) : Type 0 where
  pub is_well_formed : IsWellFormed (result_of call)
  pub busy : MakesNothing (result_of call) 1
  pub error : MakesNothing (result_of call) 2
  pub nomem : MakesNothing (result_of call) 3
  pub timedout : MakesNothing (result_of call) 4
  pub no_other : outcome_of (result_of call) (answers 0 5) [] ≡ No_step

-- ---- counted loops: four threads are made and joined in four turns

--  2  static thrd_t t[4];
--  3  static int worker(void *arg)
--  4  {
--  5      (void)arg;
--  6      return 0;
--  7  }
--  8  int main(void)
--  9  {
-- 10      int i;
-- 11      for (i = 0; i < 4; i++)
-- 12      {
-- 13          (void)thrd_create(&t[i], worker, NULL);
-- 14      }
-- 15      for (i = 0; i < 4; i++)
-- 16      {
-- 17          (void)thrd_join(t[i], NULL);
-- 18      }
-- 19      return 0;
-- 20  }
abbrev pub counted_from : ℕ → Counter
counted_from first = record { local = 2; first = pos 0; turns = 4; start = first; test = suc first; step = suc (suc first) }

-- &t[i]
abbrev pub element_i : Expr
element_i = Path (Object 0) (Element (Local 2 []) ∷ [])

abbrev pub four_turns : Program
four_turns = record {
  structures = timespec ∷ [];
  objects = file_object (116 ∷ []) 2 15 (record { base = base.Thread; is_const = false; pointers = []; sizes = 4 ∷ [] })
      ∷ automatic_object (97 ∷ 114 ∷ 103 ∷ []) (at 3 25) void_pointer 0 ∷ automatic_object (105 ∷ []) (at 10 9) c_int 1 ∷ [];
  functions = function_of (119 ∷ 111 ∷ 114 ∷ 107 ∷ 101 ∷ 114 ∷ []) (at 3 12) (1 ∷ []) (Block (Do 0 ∷ Do 1 ∷ []))
      ∷ function_of (109 ∷ 97 ∷ 105 ∷ 110 ∷ []) (at 8 5) []
      (Block (Do 2 ∷ Counted (counted_from 3) (Do 6) ∷ Counted (counted_from 7) (Do 10) ∷ Do 11 ∷ [])) ∷ [];
  actions = on 5 5 (Evaluate (Local 1 [])) ∷ on 6 5 return_0
      ∷ on 10 9 (Declare 2)
      ∷ on 11 10 starts ∷ on 11 17 tests ∷ on 11 24 steps ∷ on 13 15 (Library (lib.ThreadCreate element_i 0 null) None)
      ∷ on 15 10 starts ∷ on 15 17 tests ∷ on 15 24 steps ∷ on 17 15 (Library (lib.ThreadJoin element_i null) None)
      ∷ on 19 5 return_0 ∷ [];
  main = 1;
}
  where
    starts : Act
    starts = Assign (int_local 2) (number 0)

    tests : Act
    tests = Evaluate (Chain (Local 2 []) (record { operator = Less; integer = Int; operand = number 4 } ∷ []))

    steps : Act
    steps = Assign (int_local 2) (Chain (Local 2 []) (record { operator = Add; integer = Int; operand = number 1 } ∷ []))

-- a turn: the condition, the call and the step
abbrev pub creating_turn : List Choice → List Choice
creating_turn later = goes 0 ∷ answers 0 0 ∷ goes 0 ∷ later

abbrev pub joining_turn : List Choice → List Choice
joining_turn later = goes 0 ∷ goes 0 ∷ goes 0 ∷ later

abbrev pub working : ℕ → List Choice → List Choice
working thread later = goes thread ∷ goes thread ∷ later

abbrev pub four_turns_schedule : List Choice
four_turns_schedule = in_order (goes 0 ∷ goes 0 ∷ creating_turn (creating_turn (creating_turn (creating_turn (goes 0
    ∷ working 4 (working 3 (working 2 (working 1 (goes 0 ∷ joining_turn (joining_turn (joining_turn (joining_turn (goes 0 ∷ goes 0 ∷ [])))))))))))))

-- the thread of a turn is held by its element, was made at the point of its turn, and was joined
pub record IsOfTurn (program : Program) (run : List Choice) (turn thread action : ℕ) : Type 0 where
  pub held : (state_after program run).holds (record { root = StaticRoot 0; path = turn ∷ [] }) ≡ Some thread
  pub made_at : ((state_after program run).thread thread).origin ≡ record { action = action; rounds = record { counter = 2; value = pos turn } ∷ [] } ∷ []
  pub ended : has_ended ((state_after program run).thread thread).stand ≡ true
  pub joined : ((state_after program run).thread thread).mark ≡ Joined

pub record RunsInFourTurns (program : Program) (run : List Choice) : Type 0 where
  pub is_well_formed : IsWellFormed program
  pub is_run : IsGoodRun program run
  pub is_over : (state_after program run).is_over ≡ true
  pub first : IsOfTurn program run 0 1 6
  pub second : IsOfTurn program run 1 2 6
  pub third : IsOfTurn program run 2 3 6
  pub fourth : IsOfTurn program run 3 4 6
