use Rattle.std.proofs.Common.{◌≡◌, ◌<◌, ◌+◌, [], ◌∷◌, ◌++◌, length, get_or, subst, sym}
use Rattle.desk_links.proofs.Lists.{written_on}
use Rattle.desk_links.proofs.connections.Connections.written.Goals as goal

pub returns : goal.returns
returns c =
    subst (λ v. c.as_slice.result.now ≡ get_or (v.before ++ v.written ∷ []) (c.args.connection + 1) []) c.self.view_is
    (written_on _ _ _ c.args.connection c.index.result.now _ c.as_slice.ensures.value c.index.ensures
    (subst (λ v. c.args.connection < length v.before + length v.coming) (sym c.self.view_is) c.requires) c.self.invariant.1 c.self.invariant.2)
