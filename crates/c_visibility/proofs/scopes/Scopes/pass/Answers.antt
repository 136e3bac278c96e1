use Rattle.c_visibility.proofs.scopes.Scopes.pass.Goals as goal

pub returns-in-Declare-clause-found : goal.returns-in-Declare-clause-found
returns-in-Declare-clause-found c = λ before k. rw c.in-Declare.is (c.declare_word.ensures.found before k)
