-- A derived `==` is equality at an enum whose variants with fields compare so; KeyCode is one. Assumes nothing.
use Rattle.std.proofs.Common.{◌≡◌, ℕ, Bool, true, false, List, [], ◌∷◌, Decides, refl, sym, ap, ◌∙◌, ◌==◌, ◌&&◌}
use Rattle.std.proofs.lemmas.Bool.Decides.{Decides-eqb, Decides-and}
use mathlib.Core.Logic.{◌⊎◌, inl, inr}
use denote.Struct.Field.{Field}
use denote.Struct.Values.{Values}
use denote.Enum.Declared.{Record, Choice}
use denote.Enum.Compared.{Each, by}
use Rattle.keycode.specs.declared.key.KeyCode.{KeyCode}
use Rattle.keycode.specs.declared.key.KeyEvent.{KeyEvent}
use Rattle.keycode.specs.contracts.key.KeyCode.{enum}

-- a test of two values that is equality
pub record Test (A : Type 0) : Type 0 where
  pub test : A → A → Bool
  pub exact : (x y : A) → Decides (test x y) (x ≡ y)

-- a test for each variant that has fields
abbrev pub Tests : List (List Field) → Type 0
Tests [] = Unit {0}
Tests ([] ∷ Fss) = Tests Fss
Tests ((F ∷ Fs) ∷ Fss) = Test (Values (F ∷ Fs)) × Tests Fss

abbrev pub tests : (Fss : List (List Field)) → Tests Fss → Each Bool Fss
tests [] ts = tt
tests ([] ∷ Fss) ts = (λ x y. true, tests Fss ts)
tests ((F ∷ Fs) ∷ Fss) ts = (ts.0.test, tests Fss ts.1)

module _ {A B : Type 0} where
  left_Decides : (r : Bool) (x y : A) → Decides r (x ≡ y) → Decides r (◌≡◌ {A = A ⊎ B} (inl x) (inl y))
  left_Decides r x y d = (λ e. ap inl (d.0 e), λ e. d.1 (cc))

  right_Decides : (r : Bool) (x y : B) → Decides r (x ≡ y) → Decides r (◌≡◌ {A = A ⊎ B} (inr x) (inr y))
  right_Decides r x y d = (λ e. ap inr (d.0 e), λ e. d.1 (cc))

  apart : (x : A) (y : B) → Decides false (◌≡◌ {A = A ⊎ B} (inl x) (inr y))
  apart x y = (λ e. cc, λ e. cc)

  apart_back : (x : B) (y : A) → Decides false (◌≡◌ {A = A ⊎ B} (inr x) (inl y))
  apart_back x y = (λ e. cc, λ e. cc)

choices_Decides : (Fss : List (List Field)) (ts : Tests Fss) (c d : Choice Fss) → Decides (by false false Fss (tests Fss ts) c d) (c ≡ d)
choices_Decides [] ts c d = absurd c
choices_Decides ([] ∷ Fss) ts (inl x) (inl y) = left_Decides true x y (λ e. refl, λ e. refl)
choices_Decides ([] ∷ Fss) ts (inl x) (inr y) = apart x y
choices_Decides ([] ∷ Fss) ts (inr x) (inl y) = apart_back x y
choices_Decides ([] ∷ Fss) ts (inr x) (inr y) = right_Decides _ x y (choices_Decides Fss ts x y)
choices_Decides ((F ∷ Fs) ∷ Fss) ts (inl x) (inl y) = left_Decides _ x y (ts.0.exact x y)
choices_Decides ((F ∷ Fs) ∷ Fss) ts (inl x) (inr y) = apart x y
choices_Decides ((F ∷ Fs) ∷ Fss) ts (inr x) (inl y) = apart_back x y
choices_Decides ((F ∷ Fs) ∷ Fss) ts (inr x) (inr y) = right_Decides _ x y (choices_Decides Fss ts.1 x y)

module _ (N : Record) (ts : Tests N.parts) (a b : N.D) where
  pub enum_Decides : Decides (by false false N.parts (tests N.parts ts) (N.as_values a) (N.as_values b)) (a ≡ b)
  enum_Decides =
      let d = choices_Decides N.parts ts (N.as_values a) (N.as_values b) in
      (λ e. sym (N.eta a) ∙ ap N.make (d.0 e) ∙ N.eta b, λ e. d.1 (ap N.as_values e))

abbrev pub number : Test (ℕ × Unit {0})
number = record {
  test = λ x y. x.0 == y.0;
  exact = λ x y. (λ e. ap (λ (n : ℕ). (n, tt {0})) ((Decides-eqb x.0 y.0).0 e), λ e. (Decides-eqb x.0 y.0).1 (ap (λ (p : ℕ × Unit {0}). p.0) e));
}

-- what `==` answers at two keys
pub KeyCode-Decides : (a b : KeyCode) (r : Bool) → r ≡ by false false enum.parts (tests enum.parts (number, (number, tt))) (enum.as_values a) (enum.as_values b) → Decides r (a ≡ b)
KeyCode-Decides a b r h = rw h (enum_Decides enum (number, (number, tt)) a b)

-- what `==` answers at two presses
pub KeyEvent-Decides : (a b : KeyEvent) (r : Bool) → r ≡ (by false false enum.parts (tests enum.parts (number, (number, tt))) (enum.as_values a.key) (enum.as_values b.key) && (a.modifiers.0 == b.modifiers.0)) → Decides r (a ≡ b)
KeyEvent-Decides a b r h =
    let d = Decides-and _ _ (enum_Decides enum (number, (number, tt)) a.key b.key) (Decides-eqb a.modifiers.0 b.modifiers.0) in
    rw h
    (λ e. let both = d.0 e in λ i. record { key = both.0 i; modifiers = record { 0 = both.1 i } }, λ e. d.1 (ap (λ (x : KeyEvent). x.key) e, ap (λ (x : KeyEvent). x.modifiers.0) e))
