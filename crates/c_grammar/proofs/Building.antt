-- The steps of the one derivation make its tree.
use Rattle.std.proofs.Common.{◌≡◌, ◌∙◌, ◌≤◌, ℕ, List, [], ◌∷◌, length, reverse, sym, ap, subst, arith}
use Rattle.std.proofs.lemmas.List.{length-map, reverse-reverse}
use Rattle.c_lexer.specs.declared.token.Token.{Token}
use Rattle.c_rawtree.specs.Statements.{ExternalData}
use Rattle.c_parts.specs.PartData
use Rattle.c_parts.specs.Reading.{first, externals_of}
use Rattle.ll_core.specs.declared.reductions.Event.{Event}
use Rattle.ll_core.specs.Answers.{IsDerivedWithin, IsOnlyDerivation}
use Rattle.ll_core.specs.Folds.{fold_forest, run_steps}
use Rattle.ll_core.specs.Postorder.{IsPostorder, postorder}
use Rattle.ll_core.specs.Trees.{leaves}
use Rattle.ll_core.proofs.Folding.{ran_tree}
use Rattle.ll_core.proofs.OneDerivation.{one_derivation}
use Rattle.c_grammar.specs.declared.tables.TheConstants.{PRODUCTIONS}
use Rattle.c_grammar.specs.Syntax.{classes_of}
use Rattle.c_grammar.specs.Trees.{IsRun, IsTree, leaf_of_token, leaves_of, node_of}
use Rattle.c_grammar.proofs.TypedSteps.{runs_whole}

module _ (text : List ℕ) (tokens : List Token) (numbers : List ℕ) (events : List Event) (derived : IsDerivedWithin PRODUCTIONS (classes_of tokens) numbers)
    (steps : IsPostorder PRODUCTIONS numbers events) where
  events_are : events ≡ postorder derived.0
  events_are =
      steps.3 ∙ ap postorder (one_derivation PRODUCTIONS steps.0 derived.0 steps.1 derived.1.derived (steps.2 ∙ sym derived.1.order))

  count : length (leaves derived.0) ≡ length tokens
  count = ap length derived.1.reads ∙ length-map tokens (λ t. t.class)

  pub can_run : IsRun events (length tokens) []
  can_run =
      subst (λ es. IsRun es (length tokens) []) (sym events_are)
      (subst (λ (n : ℕ). IsRun (postorder derived.0) n []) count (runs_whole derived.0 derived.1.derived))

  pub built_tree : (part : PartData.PartData) (tree : List ExternalData) → IsOnlyDerivation PRODUCTIONS (classes_of tokens) numbers
      → part ∷ [] ≡ run_steps node_of PRODUCTIONS events [] (leaves_of text tokens) → tree ≡ externals_of part → IsTree text tokens tree
  built_tree part tree only made is =
      let ts = leaves_of text tokens in
      let values = (fold_forest node_of derived.0 ts).values in
      let enough : length ts ≡ length tokens = length-map tokens (λ t. PartData.leaf (leaf_of_token text t)) in
      let few : length (leaves derived.0) ≤ length ts = (let c = count in omega (arith, c, enough)) in
      let ran : run_steps node_of PRODUCTIONS (postorder derived.0) [] ts ≡ reverse values = ran_tree node_of PRODUCTIONS 100 derived.0 ts derived.1.derived few in
      let one : values ≡ part ∷ [] =
      sym (reverse-reverse values) ∙ ap reverse (sym ran ∙ ap (λ es. run_steps node_of PRODUCTIONS es [] ts) (sym events_are) ∙ sym made) in
      record {
        numbers = numbers;
        derivation = derived.0;
        parsed = derived.1;
        within = derived.2;
        only = only;
        is = is ∙ ap (λ ps. externals_of (first ps)) (sym one);
      }
