-- Records read piece by piece. Assumes nothing.
use Rattle.std.proofs.Common.{◌≡◌, ℕ, suc, ◌+◌, ◌-◌, List, ◌∷◌, ◌++◌, length, take, drop, Some, None, Option, sym, ap, ◌∙◌, arith, length-append}
use Rattle.std.proofs.lemmas.List.{drop-drop, drop_at, take_at}
use Rattle.std.specs.Prelude.{IfSome}
use Rattle.map_port.specs.declared.record.Request.{Request}
use Rattle.map_port.specs.declared.record.Request.TheVariants.{Insert, Lookup}
use Rattle.map_port.specs.Records.{Stands, before, behind}

-- a key and the four bytes of a value
pub valued : (script key more rest : List ℕ) → script ≡ length key ∷ (key ++ more) → rest ≡ drop 4 more → length rest + 4 ≡ length more → Stands 0 4 script key rest
valued script key more rest e r l =
    let n = length key + 1 in
    let long : length (length key ∷ key) ≡ n = omega arith in
    let first : take n script ≡ length key ∷ key = ap (take n) e ∙ take_at (length key ∷ key) more n long in
    let next : drop n script ≡ more = ap (drop n) e ∙ drop_at (length key ∷ key) more n long in
    let same : n + 4 ≡ 0 + 1 + length key + 4 = omega arith in (
      first,
      r ∙ (ap (drop 4) (sym next) ∙ (drop-drop 4 n script ∙ ap (λ (k : ℕ). drop k script) same)),
      omega (arith, ap length e, length-append key more),
    )

-- a record with its kind in front
pub kinded : (q : Request) (b : ℕ) (whole script key rest : List ℕ) → whole ≡ b ∷ script → Stands (before q - 1) (behind q) script key rest → Stands (before q) (behind q) whole key rest
kinded (Insert v) b whole script key rest e s =
    let same : suc (0 + 1 + length key + 4) ≡ 1 + 1 + length key + 4 = omega arith in (
      ap (λ (l : List ℕ). take (length key + 1) (drop 1 l)) e ∙ s.0,
      s.1 ∙ (ap (λ (n : ℕ). drop n (b ∷ script)) same ∙ ap (drop (1 + 1 + length key + 4)) (sym e)),
      omega (arith, s.2, ap length e),
    )
kinded (Lookup v) b whole script key rest e s =
    let same : suc (1 + 1 + length key + 0) ≡ 2 + 1 + length key + 0 = omega arith in (
      ap (λ (l : List ℕ). take (length key + 1) (drop 2 l)) e ∙ s.0,
      s.1 ∙ (ap (λ (n : ℕ). drop n (b ∷ script)) same ∙ ap (drop (2 + 1 + length key + 0)) (sym e)),
      omega (arith, s.2, ap length e),
    )

pub if_some : {A : Type 0} {P Q : A → Type 0} (r : Option A) → ((x : A) → P x → Q x) → IfSome r P → IfSome r Q
if_some None f h = h
if_some (Some x) f h = f x h
