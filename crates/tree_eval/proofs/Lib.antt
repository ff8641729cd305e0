mod Truths
