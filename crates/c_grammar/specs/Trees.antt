-- The tree of a text: what its one derivation makes, production by production.
use Rattle.std.specs.Prelude.{◌≡◌, ℕ, zero, suc, List, [], ◌∷◌, ◌++◌, map, reverse, Option, Some, None, slice_get}
use Rattle.c_lexer.specs.declared.token.Token.{Token}
use Rattle.c_lexer.specs.Slices.{token_text}
use Rattle.c_rawtree.specs.declared.expression.Word.{Word}
use Rattle.c_rawtree.specs.Statements.{ExternalData}
use Rattle.c_parts.specs.declared.part.Part.{Part}
use Rattle.c_parts.specs.Kinds
use Rattle.c_parts.specs.PartData
use Rattle.c_parts.specs.PartViews.{part_view}
use Rattle.c_parts.specs.Reading.{first, kind_of, externals_of, no_word}
use Rattle.c_nodes.specs.declared.action.Action.{Action}
use Rattle.c_nodes.specs.Nodes.{node, kind, kinds}
use Rattle.ll_core.specs.declared.reductions.Event.{Event}
use Rattle.ll_core.specs.declared.reductions.Event.TheVariants.{Shift, Reduce}
use Rattle.ll_core.specs.Answers.{IsOnlyDerivation}
use Rattle.ll_core.specs.Folds.{fold_forest, run_steps}
use Rattle.ll_core.specs.Sentences.{IsParsed, AllWithin}
use Rattle.ll_core.specs.Trees.{Forest, nestings}
use Rattle.c_grammar.specs.declared.actions.TheConstants.{ACTIONS}
use Rattle.c_grammar.specs.declared.tables.TheConstants.{PRODUCTIONS}
use Rattle.c_grammar.specs.Syntax.{classes_of}

abbrev pub made : Option Action → List PartData.PartData → PartData.PartData
made None parts = PartData.leaf no_word
made (Some action) parts = node action parts

-- what a production makes of its parts
abbrev pub node_of : ℕ → List PartData.PartData → PartData.PartData
node_of number parts = made (slice_get ACTIONS number) parts

-- the tokens as leaves, each with its place and its text
abbrev pub leaf_of_token : List ℕ → Token → Word
leaf_of_token text token = record { place = token.place; text = token_text text token }

abbrev pub leaves_of : List ℕ → List Token → List PartData.PartData
leaves_of text tokens = map (λ token. PartData.leaf (leaf_of_token text token)) tokens

-- the tree that a derivation of the tokens makes
abbrev pub tree_of : List ℕ → List Token → Forest → List ExternalData
tree_of text tokens derivation = externals_of (first (fold_forest node_of derivation (leaves_of text tokens)).values)

-- the tokens have one derivation, which stays within the nesting, and this is its tree
pub record IsTree (text : List ℕ) (tokens : List Token) (tree : List ExternalData) : Type 0 where
  pub numbers : List ℕ
  pub derivation : Forest
  pub parsed : IsParsed PRODUCTIONS (classes_of tokens) numbers derivation
  pub within : AllWithin (nestings PRODUCTIONS 0 derivation)
  pub only : IsOnlyDerivation PRODUCTIONS (classes_of tokens) numbers
  pub is : tree ≡ tree_of text tokens derivation

-- ---- the kinds of the parts on a stack

-- a stack of parts, whose top is first
abbrev pub stack_view : List Part → List PartData.PartData
stack_view parts = map part_view (reverse parts)

-- the parts of the production are the last ones on a stack of these kinds
pub record Takes (number : ℕ) (stack : List Kinds.Kind) (below : List Kinds.Kind) (action : Action) : Type 0 where
  pub found : slice_get ACTIONS number ≡ Some action
  pub top : stack ≡ reverse (kinds action) ++ below

abbrev pub IsReady : ℕ → List PartData.PartData → Type 0
IsReady number stack = (below : List Kinds.Kind) × (action : Action) × Takes number (map kind_of stack) below action

-- the steps can be run with so many tokens and on a stack of these kinds, and leave external declarations alone
abbrev pub IsRun : List Event → ℕ → List Kinds.Kind → Type 0
IsRun [] left stack = stack ≡ Kinds.externals ∷ []
IsRun (Shift ∷ events) zero stack = ⊥
IsRun (Shift ∷ events) (suc left) stack = IsRun events left (Kinds.leaf ∷ stack)
IsRun (Reduce number ∷ events) left stack =
    (below : List Kinds.Kind) × (action : Action) × Takes number stack below action × IsRun events left (kind action ∷ below)

-- running the steps leaves one part, which is these external declarations
pub record IsMade (text : List ℕ) (tokens : List Token) (events : List Event) (tree : List ExternalData) : Type 0 where
  pub part : PartData.PartData
  pub made : part ∷ [] ≡ run_steps node_of PRODUCTIONS events [] (leaves_of text tokens)
  pub is : tree ≡ externals_of part
