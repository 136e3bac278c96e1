-- Pieces of the small texts
--     #include <threads.h>
--     #include <stdatomic.h>
--     static mtx_t m; static mtx_t n; static cnd_t c; static thrd_t t; static tss_t k; static struct timespec s; static int x; static atomic_int z;
--     static int w(void *arg) { .. return 0; }
--     int main(void) { .. return 0; }
-- as programs, and pieces of their schedules.
use Rattle.std.specs.Prelude.{ℕ, suc, false, pos, List, [], ◌∷◌, ◌++◌, length, reverse, Some, None}
use Rattle.misra_base.specs.declared.place.Place.{Place}
use Rattle.c_program.specs.declared.types.CType.{CType}
use Rattle.c_program.specs.declared.types.Base.TheVariants as base
use Rattle.c_program.specs.declared.types.Integer.TheVariants.{Int, Long}
use Rattle.c_program.specs.declared.types.Structure.{Structure}
use Rattle.c_program.specs.declared.expression.Expr.{Expr, Constant, Object}
use Rattle.c_program.specs.declared.action.MutexKind.{MutexKind}
use Rattle.c_program.specs.declared.action.Act.{Act}
use Rattle.c_program.specs.declared.action.Act.TheVariants.{Library, Return}
use Rattle.c_program.specs.declared.action.LibraryCall.TheVariants as lib
use Rattle.c_program.specs.declared.action.Action.{Action}
use Rattle.c_program.specs.declared.statement.Statement.{Statement, Do}
use Rattle.c_program.specs.declared.program.Storage.TheVariants.{Static, Automatic}
use Rattle.c_program.specs.declared.program.Object.{Object as ObjectOf}
use Rattle.c_program.specs.declared.program.Function.{Function}
use Rattle.c_program.specs.declared.program.Program.{Program}
use Rattle.c_program.specs.Syntax.{c_int}
use Rattle.c_program.specs.Lists.{Block}
use Rattle.c_program.specs.Types.{plain_type}
use Rattle.c_program.specs.Step.{Choice}

-- ---- types and objects

abbrev pub at : ℕ → ℕ → Place
at line column = record { line = line; column = column }

abbrev pub c_long : CType
c_long = plain_type (base.Integer Long)

abbrev pub void_pointer : CType
void_pointer = record { base = base.Void; is_const = false; pointers = false ∷ []; sizes = [] }

-- tv_sec, tv_nsec and timespec
abbrev pub timespec : Structure
timespec = record {
  name = 116 ∷ 105 ∷ 109 ∷ 101 ∷ 115 ∷ 112 ∷ 101 ∷ 99 ∷ [];
  members = record { name = 116 ∷ 118 ∷ 95 ∷ 115 ∷ 101 ∷ 99 ∷ []; c_type = c_long }
      ∷ record { name = 116 ∷ 118 ∷ 95 ∷ 110 ∷ 115 ∷ 101 ∷ 99 ∷ []; c_type = c_long } ∷ [];
  holds_library = false;
}

-- an object of file scope, by its name of one byte, its column in line 3 and its type
abbrev pub static_object : ℕ → ℕ → CType → ObjectOf
static_object letter column t = record { name = letter ∷ []; place = at 3 column; storage = Static; c_type = t; function = None; initial = [] }

-- one that is declared in a function, by its name and place
abbrev pub automatic_object : List ℕ → Place → CType → ℕ → ObjectOf
automatic_object name place t function = record { name = name; place = place; storage = Automatic; c_type = t; function = Some function; initial = [] }

-- the numbers of the objects, and of the functions
abbrev pub m : ℕ
m = 0

abbrev pub n : ℕ
n = 1

abbrev pub c : ℕ
c = 2

abbrev pub t : ℕ
t = 3

abbrev pub k : ℕ
k = 4

abbrev pub s : ℕ
s = 5

abbrev pub x : ℕ
x = 6

abbrev pub z : ℕ
z = 7

abbrev pub arg : ℕ
arg = 8

-- the first local of `main` behind these
abbrev pub own : ℕ
own = 9

abbrev pub w : ℕ
w = 0

abbrev pub main : ℕ
main = 1

abbrev pub globals : List ObjectOf
globals = static_object 109 14 (plain_type base.Mutex) ∷ static_object 110 30 (plain_type base.Mutex) ∷ static_object 99 46 (plain_type base.Condition)
    ∷ static_object 116 63 (plain_type base.Thread) ∷ static_object 107 79 (plain_type base.Key) ∷ static_object 115 105 (plain_type (base.Structure 0))
    ∷ static_object 120 119 c_int ∷ static_object 122 140 (plain_type (base.Atomic Int))
    ∷ automatic_object (97 ∷ 114 ∷ 103 ∷ []) (at 4 20) void_pointer w ∷ []

-- ---- programs

abbrev pub function_of : List ℕ → Place → List ℕ → Statement → Function
function_of name place parameters body = record { name = name; place = place; parameters = parameters; result = c_int; body = body; loops = []; early_returns = []; unused_calls = []; changed_parameters = [] }

-- objects behind those of file scope, the bodies of w and main, and the actions of both
abbrev pub program_of : List ObjectOf → Statement → Statement → List Action → Program
program_of locals w_body main_body actions = record {
  structures = timespec ∷ [];
  objects = globals ++ locals;
  functions = function_of (119 ∷ []) (at 4 12) (arg ∷ []) w_body ∷ function_of (109 ∷ 97 ∷ 105 ∷ 110 ∷ []) (at 5 5) [] main_body ∷ [];
  actions = actions;
  main = main;
}

-- some actions one after the other, from a number on
abbrev pub numbered : ℕ → List Action → List Statement
numbered first [] = []
numbered first (action ∷ actions) = Do first ∷ numbered (suc first) actions

-- bodies without branches
abbrev pub straight : List ObjectOf → List Action → List Action → Program
straight locals of_w of_main = program_of locals (Block (numbered 0 of_w)) (Block (numbered (length of_w) of_main)) (of_w ++ of_main)

-- an action in w, and one in main, by its column
abbrev pub in_w : ℕ → Act → Action
in_w column act = record { place = at 4 column; act = act }

abbrev pub in_main : ℕ → Act → Action
in_main column act = record { place = at 5 column; act = act }

abbrev pub number : ℕ → Expr
number v = Constant (pos v)

-- NULL is the number 0
abbrev pub null : Expr
null = number 0

abbrev pub return_0 : Act
return_0 = Return (Some (number 0))

-- the body of a w that does nothing
abbrev pub idle : List Action
idle = in_w 28 return_0 ∷ []

-- ---- calls whose results are dropped

abbrev pub plain_kind : MutexKind
plain_kind = record { is_recursive = false; is_timed = false }

abbrev pub init : ℕ → Act
init mutex = Library (lib.MutexInit (Object mutex) plain_kind) None

abbrev pub lock : ℕ → Act
lock mutex = Library (lib.MutexLock (Object mutex)) None

abbrev pub unlock : ℕ → Act
unlock mutex = Library (lib.MutexUnlock (Object mutex)) None

abbrev pub destroy : ℕ → Act
destroy mutex = Library (lib.MutexDestroy (Object mutex)) None

abbrev pub wait : ℕ → ℕ → Act
wait condition mutex = Library (lib.ConditionWait (Object condition) (Object mutex)) None

abbrev pub open_condition : ℕ → Act
open_condition condition = Library (lib.ConditionInit (Object condition)) None

-- thrd_create(&t, w, NULL)
abbrev pub create : Act
create = Library (lib.ThreadCreate (Object t) w null) None

abbrev pub join : Act
join = Library (lib.ThreadJoin (Object t) null) None

abbrev pub detach : Act
detach = Library (lib.ThreadDetach (Object t)) None

-- ---- schedules

-- the thread takes its first move, and nothing is answered
abbrev pub goes : ℕ → Choice
goes thread = record { thread = thread; pair = 0; values = [] }

-- the call answers a number
abbrev pub answers : ℕ → ℕ → Choice
answers thread value = record { thread = thread; pair = 0; values = pos value ∷ [] }

-- runs have their last choice first
abbrev pub in_order : List Choice → List Choice
in_order choices = reverse choices
