-- The words that a label keeps as fields, those that only stand in it, and where they may stand.
use Rattle.std.specs.Prelude.{ℕ, Bool, List, [], ◌∷◌, codes}
use denote.Enum.Bare.{sameb}
use Rattle.ir_laws.specs.contracts.labels.Keyword.{the_type}
use Rattle.ir_laws.specs.declared.labels.Keyword.{Keyword}
use Rattle.ir_laws.specs.declared.labels.Keyword.TheVariants.{Not, Mut, Safe, Unsafe, Rust, RustCall, C, System, Fixed, Variadic, Pos, Neg, Const, Maybe, True, False, Equate, Subtype, Covariant, Invariant, Contravariant, Bivariant}
use Rattle.ir_laws.specs.declared.labels.FixedWord.{FixedWord}
use Rattle.ir_laws.specs.declared.labels.FixedWord.TheVariants.{Projection, Inherent, Free, Opaque, Star}
use Rattle.ir_laws.specs.declared.labels.Choice.{Choice}
use Rattle.ir_laws.specs.declared.labels.Choice.TheVariants as choice

-- how a keyword is written
abbrev pub keyword_text : Keyword → List ℕ
keyword_text Not = codes "not"
keyword_text Mut = codes "mut"
keyword_text Safe = codes "safe"
keyword_text Unsafe = codes "unsafe"
keyword_text Rust = codes "Rust"
keyword_text RustCall = codes "RustCall"
keyword_text C = codes "C"
keyword_text System = codes "System"
keyword_text Fixed = codes "fixed"
keyword_text Variadic = codes "variadic"
keyword_text Pos = codes "pos"
keyword_text Neg = codes "neg"
keyword_text Const = codes "const"
keyword_text Maybe = codes "maybe"
keyword_text True = codes "true"
keyword_text False = codes "false"
keyword_text Equate = codes "equate"
keyword_text Subtype = codes "subtype"
keyword_text Covariant = codes "Covariant"
keyword_text Invariant = codes "Invariant"
keyword_text Contravariant = codes "Contravariant"
keyword_text Bivariant = codes "Bivariant"

-- whether two keywords are the same
abbrev pub same_keyword : Keyword → Keyword → Bool
same_keyword = sameb the_type

-- how a fixed word is written
abbrev pub fixed_text : FixedWord → List ℕ
fixed_text Projection = codes "projection"
fixed_text Inherent = codes "inherent"
fixed_text Free = codes "free"
fixed_text Opaque = codes "opaque"
fixed_text Star = codes "*"

-- the keywords of which one may stand there
abbrev pub choice_words : Choice → List Keyword
choice_words choice.Mutability = Not ∷ Mut ∷ []
choice_words choice.Safety = Safe ∷ Unsafe ∷ []
choice_words choice.Abi = Rust ∷ RustCall ∷ C ∷ System ∷ []
choice_words choice.Variadic = Fixed ∷ Variadic ∷ []
choice_words choice.Polarity = Pos ∷ Neg ∷ []
choice_words choice.Constness = Const ∷ Maybe ∷ []
choice_words choice.Expected = True ∷ False ∷ []
choice_words choice.Direction = Equate ∷ Subtype ∷ []
