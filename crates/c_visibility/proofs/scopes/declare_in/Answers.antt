use Rattle.std.proofs.Common.{◌≡◌, ◌∙◌, Option, Some, sym, ap, rules, true, false}
use Rattle.std.specs.Prelude.{cond}
use Rattle.indexmap.specs.IndexMap.{get}
use Rattle.c_visibility.specs.declared.scopes.Binding.{Binding}
use Rattle.c_visibility.specs.Scopes.{same_identifier, declares, joined}
use Rattle.c_visibility.proofs.Equality.{is_same}
use Rattle.c_visibility.proofs.Levels.{kept, put, of}
use Rattle.c_visibility.proofs.scopes.declare_in.Goals as goal

pub returns-in_ok-insert-clause-known : goal.returns-in_ok-insert-clause-known
returns-in_ok-insert-clause-known c =
    let key = c.args.identifier in
    let known_is : c.copied-known.result ≡ get same_identifier c.args.level.now key = search rules in
    let holds : declares c.args.role c.args.is_refused (get same_identifier c.args.level.now key) ≡ true =
    ap (λ (b : Option Binding). declares c.args.role c.args.is_refused b) (sym known_is) ∙ sym c.declares.ensures ∙ c.if-declares.true in
    λ i. c.in_ok-insert.ensures.updates.0 i
    ∙ ap (λ (b : Binding). cond (same_identifier key i) (Some b) (get same_identifier c.args.level.now i))
    (c.joined.ensures ∙ ap (λ (b : Option Binding). joined c.args.number c.args.role b) known_is)
    ∙ put (get same_identifier c.args.level.now) key i (of c.args.number c.args.role c.args.is_refused) holds (same_identifier key i) (is_same key i)

pub returns-else-declares-clause-known : goal.returns-else-declares-clause-known
returns-else-declares-clause-known c =
    let key = c.args.identifier in
    let known_is : c.copied-known.result ≡ get same_identifier c.args.level.now key = search rules in
    let fails : declares c.args.role c.args.is_refused (get same_identifier c.args.level.now key) ≡ false =
    ap (λ (b : Option Binding). declares c.args.role c.args.is_refused b) (sym known_is) ∙ sym c.declares.ensures ∙ c.if-declares.false in
    λ i. kept (get same_identifier c.args.level.now) key i (of c.args.number c.args.role c.args.is_refused) fails (same_identifier key i) (is_same key i)
