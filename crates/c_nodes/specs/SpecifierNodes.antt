-- What the productions of declaration specifiers make of their parts.
use Rattle.std.specs.Prelude.{List, [], ◌∷◌, Option, Some, None}
use Rattle.misra_base.specs.declared.place.Place.{Place}
use Rattle.c_rawtree.specs.declared.expression.Word.{Word}
use Rattle.c_rawtree.specs.Expressions
use Rattle.c_rawtree.specs.Views
use Rattle.c_parts.specs.Kinds
use Rattle.c_parts.specs.PartData
use Rattle.c_parts.specs.Reading.{part, declarator_of, declarators_of, enumeration_of, enumerators_of, leaf_of, members_of, optional_enumerators_of, optional_expression_of, optional_members_of, specifier_of, specifiers_of, structure_of}
use Rattle.c_nodes.specs.declared.specifier_nodes.SpecifierAction.{SpecifierAction}
use Rattle.c_nodes.specs.declared.specifier_nodes.SpecifierAction.TheVariants as ActionOf

-- the parts of the production
abbrev pub kinds : SpecifierAction → List Kinds.Kind
kinds ActionOf.Specifiers = Kinds.specifier ∷ Kinds.specifiers ∷ []
kinds ActionOf.NoSpecifiers = []
kinds (ActionOf.Keyword keyword) = Kinds.leaf ∷ []
kinds ActionOf.LibraryType = Kinds.leaf ∷ []
kinds ActionOf.TypedefName = Kinds.leaf ∷ []
kinds ActionOf.Struct = Kinds.leaf ∷ Kinds.structure ∷ []
kinds ActionOf.TaggedStructure = Kinds.leaf ∷ Kinds.optional_members ∷ []
kinds ActionOf.UntaggedStructure = Kinds.members ∷ []
kinds ActionOf.SomeMembers = Kinds.members ∷ []
kinds ActionOf.NoMembers = []
kinds ActionOf.MembersInBraces = Kinds.leaf ∷ Kinds.members ∷ Kinds.leaf ∷ []
kinds ActionOf.MemberDeclaration = Kinds.specifiers ∷ Kinds.declarator ∷ Kinds.declarators ∷ Kinds.leaf ∷ Kinds.members ∷ []
kinds ActionOf.NoMoreMembers = []
kinds ActionOf.Declarators = Kinds.leaf ∷ Kinds.declarator ∷ Kinds.declarators ∷ []
kinds ActionOf.NoDeclarators = []
kinds ActionOf.Enum = Kinds.leaf ∷ Kinds.enumeration ∷ []
kinds ActionOf.TaggedEnumeration = Kinds.leaf ∷ Kinds.optional_enumerators ∷ []
kinds ActionOf.UntaggedEnumeration = Kinds.enumerators ∷ []
kinds ActionOf.SomeEnumerators = Kinds.enumerators ∷ []
kinds ActionOf.NoEnumerators = []
kinds ActionOf.EnumeratorsInBraces = Kinds.leaf ∷ Kinds.leaf ∷ Kinds.optional_expression ∷ Kinds.enumerators ∷ Kinds.leaf ∷ []
kinds ActionOf.EnumeratorsBehindComma = Kinds.leaf ∷ Kinds.enumerators ∷ []
kinds ActionOf.EnumeratorsAgain = Kinds.enumerators ∷ []
kinds ActionOf.Enumerator = Kinds.leaf ∷ Kinds.optional_expression ∷ Kinds.enumerators ∷ []
kinds ActionOf.NoMoreEnumerators = []

-- what it makes
abbrev pub kind : SpecifierAction → Kinds.Kind
kind ActionOf.Specifiers = Kinds.specifiers
kind ActionOf.NoSpecifiers = Kinds.specifiers
kind (ActionOf.Keyword keyword) = Kinds.specifier
kind ActionOf.LibraryType = Kinds.specifier
kind ActionOf.TypedefName = Kinds.specifier
kind ActionOf.Struct = Kinds.specifier
kind ActionOf.TaggedStructure = Kinds.structure
kind ActionOf.UntaggedStructure = Kinds.structure
kind ActionOf.SomeMembers = Kinds.optional_members
kind ActionOf.NoMembers = Kinds.optional_members
kind ActionOf.MembersInBraces = Kinds.members
kind ActionOf.MemberDeclaration = Kinds.members
kind ActionOf.NoMoreMembers = Kinds.members
kind ActionOf.Declarators = Kinds.declarators
kind ActionOf.NoDeclarators = Kinds.declarators
kind ActionOf.Enum = Kinds.specifier
kind ActionOf.TaggedEnumeration = Kinds.enumeration
kind ActionOf.UntaggedEnumeration = Kinds.enumeration
kind ActionOf.SomeEnumerators = Kinds.optional_enumerators
kind ActionOf.NoEnumerators = Kinds.optional_enumerators
kind ActionOf.EnumeratorsInBraces = Kinds.enumerators
kind ActionOf.EnumeratorsBehindComma = Kinds.enumerators
kind ActionOf.EnumeratorsAgain = Kinds.enumerators
kind ActionOf.Enumerator = Kinds.enumerators
kind ActionOf.NoMoreEnumerators = Kinds.enumerators

abbrev pub tagged_structure : Word → Option (List Views.OneMember) → PartData.StructureData
tagged_structure tag None = PartData.structure_reference tag
tagged_structure tag (Some ms) = PartData.structure_declaration (Some tag) ms

abbrev pub struct_specifier : Place → PartData.StructureData → Expressions.SpecifierData
struct_specifier place (PartData.structure_reference tag) = Expressions.structure_reference place tag
struct_specifier place (PartData.structure_declaration tag ms) = Expressions.structure_declaration place tag (Views.members_of ms)

abbrev pub tagged_enumeration : Word → Option (List Views.OneEnumerator) → PartData.EnumerationData
tagged_enumeration tag None = PartData.enumeration_reference tag
tagged_enumeration tag (Some es) = PartData.enumeration_declaration (Some tag) es

abbrev pub enum_specifier : Place → PartData.EnumerationData → Expressions.SpecifierData
enum_specifier place (PartData.enumeration_reference tag) = Expressions.enumeration_reference place tag
enum_specifier place (PartData.enumeration_declaration tag es) = Expressions.enumeration_declaration place tag (Views.enumerators_of es)

abbrev pub node : SpecifierAction → List PartData.PartData → PartData.DeclarationPart
node ActionOf.Specifiers ps = PartData.specifiers (((specifier_of (part 0 ps))) ∷ (specifiers_of (part 1 ps)))
node ActionOf.NoSpecifiers ps = PartData.specifiers []
node (ActionOf.Keyword keyword) ps = PartData.specifier (Expressions.keyword (leaf_of (part 0 ps)).place keyword)
node ActionOf.LibraryType ps = PartData.specifier (Expressions.library_type (leaf_of (part 0 ps)))
node ActionOf.TypedefName ps = PartData.specifier (Expressions.typedef_name (leaf_of (part 0 ps)))
node ActionOf.Struct ps = PartData.specifier (struct_specifier (leaf_of (part 0 ps)).place (structure_of (part 1 ps)))
node ActionOf.TaggedStructure ps = PartData.structure (tagged_structure (leaf_of (part 0 ps)) (optional_members_of (part 1 ps)))
node ActionOf.UntaggedStructure ps = PartData.structure (PartData.structure_declaration None (members_of (part 0 ps)))
node ActionOf.SomeMembers ps = PartData.optional_members (Some (members_of (part 0 ps)))
node ActionOf.NoMembers ps = PartData.optional_members None
node ActionOf.MembersInBraces ps = PartData.members (members_of (part 1 ps))
node ActionOf.MemberDeclaration ps = PartData.members ((record { specifiers = Views.specifiers_of (specifiers_of (part 0 ps)); declarators = Views.declarators_of ((declarator_of (part 1 ps)) ∷ (declarators_of (part 2 ps))) }) ∷ (members_of (part 4 ps)))
node ActionOf.NoMoreMembers ps = PartData.members []
node ActionOf.Declarators ps = PartData.declarators (((declarator_of (part 1 ps))) ∷ (declarators_of (part 2 ps)))
node ActionOf.NoDeclarators ps = PartData.declarators []
node ActionOf.Enum ps = PartData.specifier (enum_specifier (leaf_of (part 0 ps)).place (enumeration_of (part 1 ps)))
node ActionOf.TaggedEnumeration ps = PartData.enumeration (tagged_enumeration (leaf_of (part 0 ps)) (optional_enumerators_of (part 1 ps)))
node ActionOf.UntaggedEnumeration ps = PartData.enumeration (PartData.enumeration_declaration None (enumerators_of (part 0 ps)))
node ActionOf.SomeEnumerators ps = PartData.optional_enumerators (Some (enumerators_of (part 0 ps)))
node ActionOf.NoEnumerators ps = PartData.optional_enumerators None
node ActionOf.EnumeratorsInBraces ps = PartData.enumerators ((record { name = (leaf_of (part 1 ps)); value = Views.maybe_of (optional_expression_of (part 2 ps)) }) ∷ (enumerators_of (part 3 ps)))
node ActionOf.EnumeratorsBehindComma ps = PartData.enumerators (enumerators_of (part 1 ps))
node ActionOf.EnumeratorsAgain ps = PartData.enumerators (enumerators_of (part 0 ps))
node ActionOf.Enumerator ps = PartData.enumerators ((record { name = (leaf_of (part 0 ps)); value = Views.maybe_of (optional_expression_of (part 1 ps)) }) ∷ (enumerators_of (part 2 ps)))
node ActionOf.NoMoreEnumerators ps = PartData.enumerators []
