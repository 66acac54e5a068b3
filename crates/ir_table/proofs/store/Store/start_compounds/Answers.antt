use Rattle.std.proofs.Common.{List, [], ◌∷◌, refl}
use Rattle.ir_core.specs.declared.handles.Part.TheVariants as part
use Rattle.ir_laws.specs.Start.{leaf, unit}
use Rattle.ir_laws.specs.declared.words.Word.TheVariants.{StaticRegion, StrType, TypeList}
use Rattle.ir_table.specs.Start.{Named}
use Rattle.ir_table.proofs.MakesLemmas.{makes_ok}
use Rattle.ir_table.proofs.StartLemmas.{begun, one_more, then_made, refused_by, names_each_later}
use Rattle.ir_table.proofs.store.Store.start_compounds.Goals as goal

pub returns-in_err-unit-clause-makes : goal.returns-in_err-unit-clause-makes
returns-in_err-unit-clause-makes c =
    refused_by c.from_residual.result (then_made (begun c.args.self.now) ((part.Tys c.args.members, leaf TypeList) ∷ []) (c.requires.members, tt) c.in_err-unit.ensures.answers) c.from_residual.ensures.1 refl

pub returns-in_err-static_str_ref-clause-makes : goal.returns-in_err-static_str_ref-clause-makes
returns-in_err-static_str_ref-clause-makes c =
    let made = one_more (begun c.args.self.now) ((part.Tys c.args.members, leaf TypeList) ∷ []) (c.requires.members, tt) c.term.new.self c.in_ok-unit.ensures.answers in
    let ks : List Named = (part.Region c.args.statik, leaf StaticRegion) ∷ (part.Ty c.args.str, leaf StrType) ∷ [] in
    let kids = names_each_later c.in_ok-unit.ensures.answers.ok.grows ks (c.requires.statik, (c.requires.str, tt)) in
    refused_by c.from_residual-in_err-static_str_ref.result (then_made made ks kids c.in_err-static_str_ref.ensures.answers) c.from_residual-in_err-static_str_ref.ensures.1 refl

pub returns-in_err-mut_unit_ptr-clause-makes : goal.returns-in_err-mut_unit_ptr-clause-makes
returns-in_err-mut_unit_ptr-clause-makes c =
    let made = one_more (begun c.args.self.now) ((part.Tys c.args.members, leaf TypeList) ∷ []) (c.requires.members, tt) c.term.new.self c.in_ok-unit.ensures.answers in
    let ks : List Named = (part.Region c.args.statik, leaf StaticRegion) ∷ (part.Ty c.args.str, leaf StrType) ∷ [] in
    let kids = names_each_later c.in_ok-unit.ensures.answers.ok.grows ks (c.requires.statik, (c.requires.str, tt)) in
    let both = one_more made ks kids c.term-2.new.self c.in_ok-static_str_ref.ensures.answers in
    refused_by c.from_residual-in_err-mut_unit_ptr.result (then_made both ((part.Ty c.in_ok-unit.unit, unit) ∷ []) (both.names.0, tt) c.in_err-mut_unit_ptr.ensures.answers) c.from_residual-in_err-mut_unit_ptr.ensures.1 refl

pub returns : goal.returns
returns c =
    let made = one_more (begun c.args.self.now) ((part.Tys c.args.members, leaf TypeList) ∷ []) (c.requires.members, tt) c.term.new.self c.in_ok-unit.ensures.answers in
    let ks : List Named = (part.Region c.args.statik, leaf StaticRegion) ∷ (part.Ty c.args.str, leaf StrType) ∷ [] in
    let kids = names_each_later c.in_ok-unit.ensures.answers.ok.grows ks (c.requires.statik, (c.requires.str, tt)) in
    let both = one_more made ks kids c.term-2.new.self c.in_ok-static_str_ref.ensures.answers in
    let all = one_more both ((part.Ty c.in_ok-unit.unit, unit) ∷ []) (both.names.0, tt) c.term-3.new.self c.in_ok-mut_unit_ptr.ensures.answers in
    record { makes = makes_ok _ _ _ tt _ all.makes; names = all.names }
