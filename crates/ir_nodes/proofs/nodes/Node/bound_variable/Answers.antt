use Rattle.std.proofs.Common.{inl, inr, refl, true≢false, sym}
use Rattle.ir_nodes.proofs.PlainLemmas.{node_leaf}
use Rattle.ir_nodes.proofs.nodes.Node.bound_variable.Goals as goal

pub returns-in-Bare : goal.returns-in-Bare
returns-in-Bare c = record {
  leaf = elim (c.in-Bare.is) [ inl x ↦ node_leaf c.args.self.now _ x refl | inr y1 ↦ elim y1 [ inl x ↦ node_leaf c.args.self.now _ x.1 refl | inr y2 ↦ elim y2 [ inl x ↦ node_leaf c.args.self.now _ x.2 refl | inr y3 ↦ elim y3 [ inl x ↦ node_leaf c.args.self.now _ x.1 refl | inr y4 ↦ elim y4 [ inl x ↦ node_leaf c.args.self.now _ x.2 refl | inr y5 ↦ elim y5 [ inl x ↦ node_leaf c.args.self.now _ x.2 refl | inr y6 ↦ elim y6 [ inl x ↦ node_leaf c.args.self.now _ x.3 refl | inr y7 ↦ elim y7 [ inl x ↦ node_leaf c.args.self.now _ x.2 refl | inr y8 ↦ elim y8 [ inl x ↦ node_leaf c.args.self.now _ x.5 refl | inr y9 ↦ node_leaf c.args.self.now _ y9.4 refl ] ] ] ] ] ] ] ] ];
  bare = λ e. absurd (true≢false (sym e));
}
