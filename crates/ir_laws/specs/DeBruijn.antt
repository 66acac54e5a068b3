-- Terms moved and filled in by their indices: what code computes. Laws tie each of these to its reading.
use Rattle.std.specs.Prelude.{ℕ, suc, ◌+◌, true, false, List, Option, Some, None, nat_eq, nat_lt, slice_get}
use Rattle.ir_core.specs.declared.ids.SolverDefId.{SolverDefId}
use Rattle.ir_laws.specs.Tree.{Kind, Parameter, Var, Param, Node, End, And, Term, Terms}

-- an index that points past the innermost c binders grows by n
abbrev pub shifted_index : ℕ → ℕ → ℕ → ℕ
shifted_index n c i = elim (nat_lt i c) [ true ↦ i | false ↦ i + n ]

-- The term with n more binders outside of it. Variables of its innermost c binders stay
abbrev mutual
  pub shifted : ℕ → ℕ → Term → Term
  shifted n c (Var i x k) = Var (shifted_index n c i) x k
  shifted n c (Param p) = Param p
  shifted n c (Node l None ts) = Node l None (all_shifted n c ts)
  shifted n c (Node l (Some b) ts) = Node l (Some b) (all_shifted n (suc c) ts)

  pub all_shifted : ℕ → ℕ → Terms → Terms
  all_shifted n c End = End
  all_shifted n c (And t ts) = And (shifted n c t) (all_shifted n c ts)

-- The variables that point past d binders to the next one have the answer of their number and kind, moved under these d binders. All others stay
abbrev mutual
  pub replaced : ℕ → (ℕ → Kind SolverDefId → Term) → Term → Term
  replaced d m (Var i x k) = elim (nat_eq i d) [ true ↦ shifted d 0 (m x k) | false ↦ Var i x k ]
  replaced d m (Param p) = Param p
  replaced d m (Node l None ts) = Node l None (all_replaced d m ts)
  replaced d m (Node l (Some b) ts) = Node l (Some b) (all_replaced (suc d) m ts)

  pub all_replaced : ℕ → (ℕ → Kind SolverDefId → Term) → Terms → Terms
  all_replaced d m End = End
  all_replaced d m (And t ts) = And (replaced d m t) (all_replaced d m ts)

-- an argument under d binders; where there is none, the parameter
abbrev pub argument_or : Option Term → Parameter → ℕ → Term
argument_or None p d = Param p
argument_or (Some a) p d = shifted d 0 a

-- The term with each parameter given by the argument of its index, moved under the d binders that are passed
abbrev mutual
  pub given : ℕ → List Term → Term → Term
  given d as' (Var i x k) = Var i x k
  given d as' (Param p) = argument_or (slice_get as' p.index) p d
  given d as' (Node l None ts) = Node l None (all_given d as' ts)
  given d as' (Node l (Some b) ts) = Node l (Some b) (all_given (suc d) as' ts)

  pub all_given : ℕ → List Term → Terms → Terms
  all_given d as' End = End
  all_given d as' (And t ts) = And (given d as' t) (all_given d as' ts)
