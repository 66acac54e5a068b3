use Rattle.std.proofs.Common.{is_some, ◌∙◌, ap, sym}
use Rattle.ir_laws.specs.Cause.{Duplicate}
use Rattle.ir_laws.specs.Names.{if_so}
use Rattle.ir_syntax.specs.Commands.{own_causes}
use Rattle.ir_script.specs.Scope.{env_of, scope_names}
use Rattle.ir_script.proofs.ScopeLemmas.{known_is}
use Rattle.ir_script.proofs.answers.declares_again.Goals as goal

pub returns-in-Let : goal.returns-in-Let
returns-in-Let c h = ap (own_causes (env_of h (scope_names c.args.scope.now))) c.in-Let.is ∙ ap (λ b. if_so b Duplicate) (known_is h (scope_names c.args.scope.now) c.in-Let.name.now ∙ ap is_some (sym c.find.ensures) ∙ sym c.is_some.ensures)
