-- How the checker keeps what a function is given, and what that is at exit: as a row, in the order of its parameters. The one at a place of such a row.
abbrev pub first : {A B : Type 0} → A × B → A
first row = row.0

abbrev pub second : {A B C : Type 0} → A × (B × C) → B
second row = row.1.0

abbrev pub third : {A B C D : Type 0} → A × (B × (C × D)) → C
third row = row.1.1.0

abbrev pub fourth : {A B C D E : Type 0} → A × (B × (C × (D × E))) → D
fourth row = row.1.1.1.0

abbrev pub fifth : {A B C D E F : Type 0} → A × (B × (C × (D × (E × F)))) → E
fifth row = row.1.1.1.1.0

abbrev pub sixth : {A B C D E F G : Type 0} → A × (B × (C × (D × (E × (F × G))))) → F
sixth row = row.1.1.1.1.1.0
