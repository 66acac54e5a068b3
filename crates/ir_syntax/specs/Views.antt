-- What a contract sees of expressions.
use Rattle.std.specs.Prelude.{List, [], ◌∷◌}
use Rattle.ir_laws.specs.Expression.{Expr, Exprs, Single, Group, NoExpr, ThenExpr}
use Rattle.ir_syntax.specs.declared.expression.Expr as code
use Rattle.ir_syntax.specs.declared.expression.Exprs as list

abbrev mutual
  pub expr_of : code.Expr → Expr
  expr_of (code.Word text) = Single text.now
  expr_of (code.Group' shape es) = Group (exprs_of es)

  pub exprs_of : {m : _} → code.Row_of-Expr m → Exprs
  exprs_of code.end_of-Expr = NoExpr
  exprs_of (code.more_of-Expr e es) = ThenExpr (expr_of e) (exprs_of es)

-- the expressions of a list
abbrev pub exprs_in : List code.Expr → Exprs
exprs_in [] = NoExpr
exprs_in (e ∷ es) = ThenExpr (expr_of e) (exprs_in es)

-- the items of a list of expressions
abbrev pub items_of : list.Exprs → List code.Expr
items_of es = es.items.items
