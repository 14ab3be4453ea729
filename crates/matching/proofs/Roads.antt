-- What the iterators of this crate give.
use Rattle.std.proofs.Common.{◌≡◌, Bor, List, sym, subst}
use Rattle.std.specs.List.{zip}
use Rattle.std.specs.Iterator.{AlwaysYields}
use Rattle.std.specs.Iterator.Adapters.{chain_steps, zip_first, zip_second}
use Rattle.std.specs.Slice.Iter.{iter_rest, iter_steps}
use Rattle.std.specs.declared.iter.Chain.{Chain}
use Rattle.std.specs.declared.iter.Zip.{Zip}
use Rattle.std.specs.declared.slice.Iter.{Iter}
use Rattle.std.proofs.lemmas.Iterator.{YieldsList, YieldsList-from_slice, YieldsList-from_zip, zips}
use Rattle.facts.specs.Meanings.{ReadFact}
use Rattle.grammar.specs.Atoms.{Head}

-- the heads of a rule
pub heads_give : {s : Chain (Iter Head) (Iter Head)} (it : Chain (Iter Head) (Iter Head)) (hs : List Head) → s ≡ it → AlwaysYields (chain_steps iter_steps iter_steps) (λ (h : Bor Head). h.now) it hs → YieldsList (chain_steps iter_steps iter_steps) (λ (h : Bor Head). h.now) s hs
heads_give it hs e all =
    subst (λ i. YieldsList (chain_steps iter_steps iter_steps) (λ (h : Bor Head). h.now) i hs) (sym e) (record { runs = all })

-- each with the fact at its position
pub pairs_give : {s : Zip (Chain (Iter Head) (Iter Head)) (Iter ReadFact)} (it : Chain (Iter Head) (Iter Head)) (hs : List Head) (fs : List ReadFact) → zip_first s ≡ it → AlwaysYields (chain_steps iter_steps iter_steps) (λ (h : Bor Head). h.now) it hs → iter_rest (zip_second s) ≡ fs → YieldsList (zips (chain_steps iter_steps iter_steps) iter_steps) (λ (p : Bor Head × Bor ReadFact). (p.0.now, p.1.now)) s (zip hs fs)
pairs_give it hs fs e all f = YieldsList-from_zip (heads_give it hs e all) (YieldsList-from_slice fs f)

-- heads alone, each with a fact
pub slices_give : {s : Zip (Iter Head) (Iter ReadFact)} (hs : List Head) (fs : List ReadFact) → iter_rest (zip_first s) ≡ hs → iter_rest (zip_second s) ≡ fs → YieldsList (zips iter_steps iter_steps) (λ (p : Bor Head × Bor ReadFact). (p.0.now, p.1.now)) s (zip hs fs)
slices_give hs fs h f = YieldsList-from_zip (YieldsList-from_slice hs h) (YieldsList-from_slice fs f)
