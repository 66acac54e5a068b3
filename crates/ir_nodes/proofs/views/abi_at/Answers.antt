use Rattle.ir_laws.specs.declared.labels.Choice.TheVariants as choice
use Rattle.ir_laws.specs.Label.{row}
use Rattle.ir_laws.specs.Names.{field_forms}
use Rattle.ir_nodes.proofs.RowLemmas.{among_four, keyword_fits}
use Rattle.ir_nodes.proofs.views.abi_at.Goals as goal

pub unreachable-requires-in_default-keyword : goal.unreachable-requires-in_default-keyword
unreachable-requires-in_default-keyword c =
    among_four _ _ _ _ c.in-Chosen.keyword (keyword_fits (field_forms (row c.args.word).parts) c.args.fields.now c.args.place choice.Abi c.in-Chosen.keyword _ c.requires.fits c.requires.form c.in-Chosen.is)
    c.in_default-keyword.not-Rust c.in_default-keyword.not-RustCall c.in_default-keyword.not-C c.in_default-keyword.not-System
