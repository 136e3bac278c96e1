-- How the identifiers of a text are declared: name space, kind, storage duration and linkage (C11 6.2.2 to 6.2.4, 6.7p5).
use Rattle.std.specs.Prelude.{Bool, true, false, ◌||◌, ◌&&◌, not, if◌then◌else◌, Some, None}
use Rattle.misra_base.specs.declared.place.Place.{Place}
use Rattle.c_names.specs.declared.declaration.NameSpace.{NameSpace}
use Rattle.c_names.specs.declared.declaration.NameSpace.TheVariants.{Ordinary, Tags, Members}
use Rattle.c_names.specs.declared.declaration.Kind.{Kind}
use Rattle.c_names.specs.declared.declaration.Kind.TheVariants as a
use Rattle.c_names.specs.declared.declaration.Linkage.{Linkage}
use Rattle.c_names.specs.declared.declaration.Linkage.TheVariants.{External, Internal}
use Rattle.c_names.specs.declared.declaration.StorageDuration.{StorageDuration}
use Rattle.c_names.specs.declared.declaration.StorageDuration.TheVariants as lives
use Rattle.c_tree.specs.declared.expression.Keyword.{Keyword}
use Rattle.c_tree.specs.declared.expression.Keyword.TheVariants as words
use Rattle.c_tree.specs.contracts.expression.KeywordPartialEq.TheImpl as keywords
use Rattle.c_tree.specs.Expressions
use Rattle.c_identifiers.specs.declared.event.Role.{Role}
use Rattle.c_identifiers.specs.declared.roles.Level.{Level}
use Rattle.c_identifiers.specs.declared.roles.Level.TheVariants.{File, Block}

abbrev pub has_keyword : Keyword → Expressions.Specifiers → Bool
has_keyword k Expressions.no_specifiers = false
has_keyword k (Expressions.specifier (Expressions.keyword word other) rest) = keywords.ghosts.eq other k || has_keyword k rest
has_keyword k (Expressions.specifier _ rest) = has_keyword k rest

-- what is no object and no function
abbrev pub plain : NameSpace → Kind → Bool → Role
plain space kind defines = record { space = space; kind = kind; defines = defines; storage = None; linkage = None }

abbrev pub tag_role : Kind → Bool → Role
tag_role kind defines = plain Tags kind defines

abbrev pub member_role : Place → Role
member_role structure = plain (Members structure) a.Member true

abbrev pub enumerator_role : Role
enumerator_role = plain Ordinary a.Enumerator true

abbrev pub typedef_role : Role
typedef_role = plain Ordinary a.Typedef true

abbrev pub parameter_role : Role
parameter_role = record (plain Ordinary a.Parameter true) { storage = Some lives.Automatic }

abbrev pub linkage_of : Bool → Linkage
linkage_of true = Internal
linkage_of false = External

-- a function is external but where it says `static`, and defined where it has a body
abbrev pub function_role : Expressions.Specifiers → Bool → Role
function_role specifiers has_body =
    record (plain Ordinary a.Function has_body) { linkage = Some (linkage_of (has_keyword words.Static specifiers)) }

-- how an object lives that does not end with its block
abbrev pub object_storage : Bool → StorageDuration
object_storage true = lives.Thread
object_storage false = lives.Static

-- at file scope an object is defined but where it says `extern` and gives no value
abbrev pub file_object : Bool → Bool → Bool → Bool → Role
file_object extern_ static_ thread initialized =
    record (plain Ordinary a.Object (not extern_ || initialized)) {
      storage = Some (object_storage thread);
      linkage = Some (linkage_of (static_ && not extern_));
    }

-- in a block an object has linkage where it says `extern`
abbrev pub block_object : Bool → Bool → Bool → Bool → Role
block_object extern_ static_ thread initialized =
    if extern_ then record (plain Ordinary a.Object initialized) { storage = Some (object_storage thread); linkage = Some External }
    else record (plain Ordinary a.Object true) { storage = Some (if static_ || thread then object_storage thread else lives.Automatic) }

abbrev pub object_role : Level → Expressions.Specifiers → Bool → Role
object_role File specifiers initialized =
    file_object (has_keyword words.Extern specifiers) (has_keyword words.Static specifiers) (has_keyword words.ThreadLocal specifiers) initialized
object_role Block specifiers initialized =
    block_object (has_keyword words.Extern specifiers) (has_keyword words.Static specifiers) (has_keyword words.ThreadLocal specifiers) initialized
