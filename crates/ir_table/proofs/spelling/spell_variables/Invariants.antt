use Rattle.std.proofs.Common.{◌≡◌, ◌++◌, drop, map, codes}
use Rattle.ir_laws.specs.Spelling.{bind_text, kind_text}
use Rattle.ir_nodes.specs.Nodes.{variable_seen}
use Rattle.ir_table.specs.Spelled.{Begins, after_each, name_text}
use Rattle.ir_table.proofs.spelling.spell_variables.Given as goal

abbrev pub invariant-loop-variable : goal.invariant-loop-variable
invariant-loop-variable g l = record {
  whole : (l.out ++ after_each (drop l.variable-index (map (kind_text (name_text (g.N.Names.named l.names))) (map variable_seen l.variables)))) ++ codes ")"
      ≡ l.fn.out ++ (codes " " ++ bind_text (name_text (g.N.Names.named l.names)) (map variable_seen l.variables));
  begins : Begins l.fn.out l.out;
}
