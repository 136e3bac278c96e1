-- For each kind of undefined step but those that break a rule, a text.
use Rattle.std.specs.Prelude.{◌≡◌, ℕ, true, false, ℤ, pos, negsuc, List, [], ◌∷◌, Some, None}
use Rattle.c_program.specs.declared.types.CType.{CType}
use Rattle.c_program.specs.declared.types.Base.TheVariants as base
use Rattle.c_program.specs.declared.types.Integer.TheVariants.{Int}
use Rattle.c_program.specs.declared.expression.Expr.{Expr, Constant, Object, Local}
use Rattle.c_program.specs.declared.expression.Step.{Step}
use Rattle.c_program.specs.declared.expression.BinaryOperator.{BinaryOperator}
use Rattle.c_program.specs.declared.action.Local.{Local as LocalOf}
use Rattle.c_program.specs.declared.action.Act.TheVariants.{Read, Write, Assign, Declare, Library, Call, Evaluate, End}
use Rattle.c_program.specs.declared.action.LibraryCall.TheVariants as lib
use Rattle.c_program.specs.declared.action.Action.{Action}
use Rattle.c_program.specs.declared.statement.Statement.{Do}
use Rattle.c_program.specs.declared.program.Storage.TheVariants.{Static}
use Rattle.c_program.specs.declared.program.Object.{Object as ObjectOf}
use Rattle.c_program.specs.declared.program.Program.{Program}
use Rattle.c_program.specs.Syntax.{c_int, Forward}
use Rattle.c_program.specs.Lists.{Path, Chain, Block}
use Rattle.c_program.specs.Types.{plain_type}
use Rattle.c_program.specs.Step.{Choice, Undefined}
use Rattle.c_program.specs.Runs.{IsGoodRun, outcome_of}
use Rattle.c_program.specs.WellFormed.{IsWellFormed}
use Rattle.litmus.specs.Pieces.{at, c_long, automatic_object, timespec, t, x, own, w, main, function_of, numbered, straight, in_w, in_main, number, null, return_0, idle, create}

-- a program as a text gives it, a run of it whose steps have a meaning, and a last step that has none
pub record IsStopped (program : Program) (choice : Choice) (run : List Choice) : Type 0 where
  pub is_well_formed : IsWellFormed program
  pub is_run : IsGoodRun program run
  pub stops : outcome_of program choice run ≡ Undefined

-- the same of a schedule, whose last choice stands first
abbrev pub Stops : Program → List Choice → Type 0
Stops program [] = ⊥
Stops program (choice ∷ run) = IsStopped program choice run

-- ---- pieces

abbrev pub pointer_to : CType → CType
pointer_to t = record { base = t.base; is_const = false; pointers = false ∷ []; sizes = [] }

-- int a[2]
abbrev pub two_ints : CType
two_ints = record { base = base.Integer Int; is_const = false; pointers = []; sizes = 2 ∷ [] }

abbrev pub const_int : CType
const_int = record { base = base.Integer Int; is_const = true; pointers = []; sizes = [] }

abbrev pub local : ℕ → CType → LocalOf
local object t = record { object = object; path = []; c_type = t }

-- a static object by its name of one byte, in line 3 behind the others
abbrev pub more_static : ℕ → ℕ → CType → ObjectOf
more_static letter column t = record { name = letter ∷ []; place = at 3 column; storage = Static; c_type = t; function = None; initial = [] }

abbrev pub int_max : ℤ
int_max = pos 2147483647

abbrev pub int_min : ℤ
int_min = negsuc 2147483647

abbrev pub minus_one : ℤ
minus_one = negsuc 0

-- ---- main: (void)(a op b);

abbrev pub computes_in : BinaryOperator → ℤ → ℤ → Program
computes_in op a b = straight [] idle
    (in_main 18 (Evaluate (Chain (Constant a) (record { operator = op; integer = Int; operand = Constant b } ∷ []))) ∷ in_main 30 return_0 ∷ [])

abbrev pub evaluates : Expr → Program
evaluates e = straight [] idle (in_main 18 (Evaluate e) ∷ in_main 30 return_0 ∷ [])

-- main: int v; (void)v;
abbrev pub unset_read : Program
unset_read = straight (automatic_object (118 ∷ []) (at 5 22) c_int main ∷ []) idle
    (in_main 22 (Declare own) ∷ in_main 25 (Evaluate (Local own [])) ∷ in_main 34 return_0 ∷ [])

-- ---- addresses

-- main: int *p = NULL; (void)*p;
abbrev pub null_used : Program
null_used = straight (automatic_object (112 ∷ []) (at 5 23) (pointer_to c_int) main ∷ automatic_object [] (at 5 43) c_int main ∷ []) idle
    (in_main 23 (Assign (local 9 (pointer_to c_int)) null) ∷ in_main 43 (Read (Local 9 []) c_int (local 10 c_int)) ∷ in_main 47 return_0 ∷ [])

-- main: int *p = NULL; p = p + 0;
abbrev pub null_moved : Program
null_moved = straight (automatic_object (112 ∷ []) (at 5 23) (pointer_to c_int) main ∷ []) idle
    (in_main 23 (Assign (local 9 (pointer_to c_int)) null)
    ∷ in_main 33 (Assign (local 9 (pointer_to c_int)) (Path (Local 9 []) (Forward c_int (number 0) ∷ []))) ∷ in_main 44 return_0 ∷ [])

-- main: long *r = (void *)&x; (void)*r;
abbrev pub used_at_another_type : Program
used_at_another_type = straight (automatic_object (114 ∷ []) (at 5 24) (pointer_to c_long) main ∷ automatic_object [] (at 5 46) c_long main ∷ []) idle
    (in_main 24 (Assign (local 9 (pointer_to c_long)) (Object x)) ∷ in_main 46 (Read (Local 9 []) c_long (local 10 c_long)) ∷ in_main 50 return_0 ∷ [])

-- static int a[2];    main: int *p = &a[2];    and with the steps from a that are given
abbrev pub steps_from_an_array : List Step → Program
steps_from_an_array steps = straight (more_static 97 153 two_ints ∷ automatic_object (112 ∷ []) (at 5 23) (pointer_to c_int) main ∷ []) idle
    (in_main 23 (Assign (local 10 (pointer_to c_int)) (Path (Object 9) steps)) ∷ in_main 35 return_0 ∷ [])

-- static const int d;    main: int *p = (void *)&d; *p = 1;
abbrev pub const_written : Program
const_written = straight (more_static 100 159 const_int ∷ automatic_object (112 ∷ []) (at 5 23) (pointer_to c_int) main ∷ []) idle
    (in_main 23 (Assign (local 10 (pointer_to c_int)) (Object 9)) ∷ in_main 41 (Write (Local 10 []) c_int (number 1)) ∷ in_main 49 return_0 ∷ [])

-- static void f(int **q) { int y; *q = &y; }    main: int *p; f(&p); (void)*p;
abbrev pub dead_used : Program
dead_used = record {
  structures = timespec ∷ [];
  objects = automatic_object (97 ∷ 114 ∷ 103 ∷ []) (at 4 20) (record { base = base.Void; is_const = false; pointers = false ∷ []; sizes = [] }) w
      ∷ automatic_object (112 ∷ []) (at 6 23) (pointer_to c_int) 2
      ∷ automatic_object (113 ∷ []) (at 5 21) (record { base = base.Integer Int; is_const = false; pointers = false ∷ false ∷ []; sizes = [] }) 1
      ∷ automatic_object (121 ∷ []) (at 5 30) c_int 1
      ∷ automatic_object [] (at 6 41) (pointer_to c_int) 2 ∷ automatic_object [] (at 6 40) c_int 2 ∷ [];
  functions = function_of (119 ∷ []) (at 4 12) (0 ∷ []) (Block (Do 0 ∷ []))
      ∷ record {
        name = 102 ∷ [];
        place = at 5 13;
        parameters = 2 ∷ [];
        result = plain_type base.Void;
        body = Block (Do 1 ∷ Do 2 ∷ Do 3 ∷ []);
        loops = [];
        early_returns = [];
        unused_calls = [];
        changed_parameters = [];
      }
      ∷ function_of (109 ∷ 97 ∷ 105 ∷ 110 ∷ []) (at 6 5) [] (Block (numbered 4 of_main)) ∷ [];
  actions = in_w 28 return_0
      ∷ record { place = at 5 30; act = Declare 3 } ∷ record { place = at 5 33; act = Write (Local 2 []) (pointer_to c_int) (Object 3) } ∷ record { place = at 5 42; act = End }
      ∷ of_main;
  main = 2;
}
  where
    of_main : List Action
    of_main = record { place = at 6 23; act = Declare 1 } ∷ record { place = at 6 26; act = Call 1 (Object 1 ∷ []) None }
        ∷ record { place = at 6 41; act = Read (Object 1) (pointer_to c_int) (local 4 (pointer_to c_int)) }
        ∷ record { place = at 6 40; act = Read (Local 4 []) c_int (local 5 c_int) }
        ∷ record { place = at 6 44; act = return_0 } ∷ []

-- ---- calls and threads

-- main: (void)thrd_join(t, NULL);
abbrev pub none_joined : Program
none_joined = straight [] idle (in_main 24 (Library (lib.ThreadJoin (Object t) null) None) ∷ in_main 44 return_0 ∷ [])

-- main: (void)thrd_detach(t);
abbrev pub none_detached : Program
none_detached = straight [] idle (in_main 24 (Library (lib.ThreadDetach (Object t)) None) ∷ in_main 40 return_0 ∷ [])

-- static int f(void) { }    main: int v = f();
abbrev pub missing_result : Program
missing_result = record {
  structures = timespec ∷ [];
  objects = automatic_object (118 ∷ []) (at 5 22) c_int 1 ∷ [];
  functions = function_of (102 ∷ []) (at 4 12) [] (Block (Do 0 ∷ [])) ∷ function_of (109 ∷ 97 ∷ 105 ∷ 110 ∷ []) (at 5 5) [] (Block (Do 1 ∷ Do 2 ∷ [])) ∷ [];
  actions = record { place = at 4 22; act = End } ∷ in_main 26 (Call 0 [] (Some (local 0 c_int))) ∷ in_main 31 return_0 ∷ [];
  main = 1;
}

-- w ends without a result    main: (void)thrd_create(&t, w, NULL); (void)thrd_join(t, &x);
abbrev pub missing_result_of_a_thread : Program
missing_result_of_a_thread = straight [] (in_w 28 End ∷ [])
    (in_main 24 create ∷ in_main 56 (Library (lib.ThreadJoin (Object t) (Object x)) None) ∷ in_main 74 return_0 ∷ [])
