-- Equations of lists of nodes have one proof. Assumes nothing.
use Rattle.std.proofs.Common.{◌≡◌, ℕ, List, Option, refl}
use Rattle.std.specs.Coded.{Coded, Coded-set, code_by, coded×, coded_ℕ, coded_list, coded_option}
use Rattle.keymap.specs.declared.node.Node.{Node}

node_code : {V : Type 0} → Coded V → Coded (Node V)
node_code {V} c =
    code_by (ℕ × (Option V × (ℕ × ℕ))) (coded× coded_ℕ (coded× (coded_option c) (coded× coded_ℕ coded_ℕ))) (λ n. (n.label, (n.value, (n.child, n.next))))
    (λ p. record { label = p.0; value = p.1.0; child = p.1.1.0; next = p.1.1.1 }) (λ _. refl)

pub nodes_prop : {V : Type 0} → Coded V → {xs ys : List (Node V)} → IsProp (xs ≡ ys)
nodes_prop c {xs} {ys} = Coded-set (coded_list (node_code c)) xs ys
