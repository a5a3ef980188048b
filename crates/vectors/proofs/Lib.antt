mod Differs
