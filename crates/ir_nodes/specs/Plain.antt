-- Labels that are no variables and no parameters.
use Rattle.std.specs.Prelude.{◌≡◌, ◌⊎◌, false, sum_by, [], None}
use Rattle.ir_core.specs.declared.handles.Part.{Part}
use Rattle.ir_core.specs.declared.ids.SolverDefId.{SolverDefId}
use Rattle.ir_laws.specs.declared.words.Word.TheVariants.{CanonicalVariable}
use Rattle.ir_laws.specs.Counts.{field_size, own_flags}
use Rattle.ir_laws.specs.Heap.{Layer, OfNames, leaf_of}
use Rattle.ir_laws.specs.Label.{row}
use Rattle.ir_laws.specs.Tree.{Label}
use Rattle.ir_laws.specs.Word.{same_word}

-- the label is no variable's and no parameter's, and has the flags of its word alone
pub record IsPlain (l : Label SolverDefId) : Type 0 where
  pub leaf : leaf_of l ≡ None
  pub flags : own_flags l ≡ (row l.word).flags
  pub number : same_word l.word CanonicalVariable ≡ false
  pub size : sum_by field_size l.fields ≡ 0

-- a variable's or a parameter's label has neither
abbrev pub IsBare : Layer Part → Type 0
IsBare l = (leaf_of l.label ≡ None) ⊎ ((l.binder ≡ None) × (l.kids ≡ OfNames []))
